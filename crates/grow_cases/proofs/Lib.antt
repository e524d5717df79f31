-- The claim, in reading order: what antt computes of formula A, what computing says of any outcome of a call, and the table.
pub mod Computed
pub mod Allowed
pub mod Claim
