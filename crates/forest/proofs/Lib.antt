-- The laws of the calls that ask of a forest, in reading order.
pub mod Agreeing
pub mod Entered
pub mod Schemes
pub mod Listings
pub mod Demands
pub mod Strict
pub mod Sample
pub mod ByBlocks
pub mod Agreed
