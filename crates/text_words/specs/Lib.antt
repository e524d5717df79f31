-- The words of a line, and what they say, which the formats speak of. The inner files say what inner functions find, which only proofs rest on.
pub mod Words
pub mod InnerNumbers
pub mod InnerPlaces
pub mod InnerExpected
