-- The laws of the text that is written, in reading order.
-- Digits, and runs of bytes one after another.
pub mod Decimal
pub mod Stores
-- What the writer of accepted tables answers.
pub mod Outputs
