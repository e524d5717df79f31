-- Bytes, numbers, lines and their words.
pub mod Leading
pub mod Numbers
pub mod Spelled
pub mod Lines
pub mod Entries
pub mod Numerals
pub mod Spelling
