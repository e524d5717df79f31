-- The laws of writing a file, in reading order.
pub mod Sizes
pub mod Composed
pub mod Filed
