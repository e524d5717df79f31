-- What the program prints: Listing is what to believe, Inner is what inner functions find on the way.
pub mod Listing
pub mod Inner
