-- The laws of the records of a file, in reading order.
pub mod Heads
pub mod Walks
pub mod Spans
pub mod Laying
pub mod Encoded
pub mod Recorded
pub mod Rewritten
-- The numbers of a file in tables.
pub mod Stores
pub mod Held
