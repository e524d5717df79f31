-- The laws of the file of a forest, in reading order.
pub mod Example
pub mod Orders
pub mod Bits
pub mod WordSums
pub mod Lengths
pub mod Short
pub mod Taken
pub mod Unique
pub mod Settled
pub mod Agreed
pub mod Changed
pub mod AllBytes
pub mod Decoded
pub mod Fits
pub mod Passing
pub mod Walked
pub mod RoundTrip
