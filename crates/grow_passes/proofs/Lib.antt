-- The laws of loose rows, in reading order.
pub mod Passes
