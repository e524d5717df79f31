-- What explain promises, Ways and Causes, which is what to believe; then what its inner functions keep and find.
pub mod Ways
pub mod Causes
pub mod InnerTies
pub mod InnerSearch
pub mod InnerWays
pub mod InnerOrders
