-- Acceptable paths and what the path check promises, which is what to believe; then what its inner functions keep and look for.
pub mod Paths
pub mod Causes
pub mod InnerWalk
pub mod InnerOrders
