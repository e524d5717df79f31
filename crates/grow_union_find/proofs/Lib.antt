-- The laws of chains, in reading order.
pub mod Inside
pub mod Relinked
pub mod Ways
pub mod Steps
