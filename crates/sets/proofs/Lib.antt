-- The laws of the call for all sets, in reading order.
pub mod Records
pub mod AllSets
pub mod Passes
pub mod Settled
pub mod Agreed
