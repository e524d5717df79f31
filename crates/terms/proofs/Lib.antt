-- The laws of the words of the library, in reading order.
pub mod Common
pub mod Overwritten
pub mod Signed
pub mod Faults
pub mod Verdicts
pub mod Orders
pub mod Listed
pub mod Answers
