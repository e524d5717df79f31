-- The definitions of growth: first what the two calls promise, then what their inner functions do, which only proofs rest on.
pub mod Taken
pub mod Grown
pub mod InnerTallies
pub mod InnerRows
pub mod InnerOrders
