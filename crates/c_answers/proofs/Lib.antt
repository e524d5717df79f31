-- Laws of answers in cells.
pub mod Laying
