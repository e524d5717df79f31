-- The laws of lent forest tables, in reading order.
pub mod Readings
pub mod Formed
pub mod Agreeing
pub mod Counting
