-- The laws of the lines that the program prints.
pub mod Spelt
