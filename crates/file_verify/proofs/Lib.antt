-- The laws of verifying the file of a forest, in reading order.
pub mod Agreement
pub mod Disagree
pub mod Judging
