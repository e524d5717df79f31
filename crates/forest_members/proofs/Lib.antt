-- The laws of picked numbers.
pub mod Picked
