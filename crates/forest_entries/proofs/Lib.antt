-- The laws of flags by the signs of x, in reading order.
pub mod Sides
pub mod Flags
pub mod Taken
