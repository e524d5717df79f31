-- The call for all sets: Sets is what to believe, the others are inner.
pub mod Sets
pub mod InnerPassed
pub mod InnerOrders
