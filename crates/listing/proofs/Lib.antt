-- The laws of the listing program: counts, what is printed of a universal and that its line says so, the lines one after the other and that a text has one
-- list of them, and the digits of a refusal.
pub mod Counts
pub mod Printed
pub mod Flagged
pub mod Lines
pub mod Refusals
pub mod Settled
