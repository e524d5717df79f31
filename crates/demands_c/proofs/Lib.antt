-- The proofs of what C is told, each in the file of its statement.
pub mod Calls
pub mod Demands
