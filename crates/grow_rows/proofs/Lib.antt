-- The laws of exact rows and their counts, in reading order.
pub mod Exact
pub mod Extending
pub mod Recounted
pub mod Census
