-- The proofs of the demands, each in the file of its statement; before them, that no refusal has the number 0, and what becomes
-- of a list that a call puts into a lent table.
pub mod Numbers
pub mod Putting
pub mod Demand1
pub mod Demand2
pub mod Demand3
pub mod Requests
