-- The laws of growth, in reading order.
pub mod Taking
pub mod Standings
pub mod Tallies
pub mod Accepted
pub mod Appended
pub mod Tight
pub mod Demand3
pub mod StrictDemand
pub mod Agreed
