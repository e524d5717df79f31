-- The laws of what C is told, in reading order: of what parts each order is made, that every place and count fits its cell, how a library's answer is
-- told, and that nothing is left open.
pub mod Composed
pub mod Places
pub mod Telling
pub mod Rewritten
pub mod Texts
pub mod Depending
pub mod Writes
pub mod Filed
pub mod Expansions
pub mod Listing
pub mod ResolutionTold
pub mod Tight
