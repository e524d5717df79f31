-- The laws of one record, in reading order.
pub mod Soles
pub mod Places
