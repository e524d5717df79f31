-- The laws of the bytes of a record, in reading order.
pub mod Runs
pub mod Sizes
pub mod Composed
