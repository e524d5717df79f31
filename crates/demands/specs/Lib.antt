-- What the library is held to, in the order of docs/RULES.md: the words, one file for each demand, and one for the claims of the
-- requests. Each sentence is one statement, over the
-- promises of the calls; its proof stands in `proofs/`, in the file of the same name.
pub mod Words
pub mod Demand1
pub mod Demand2
pub mod Demand3
pub mod Requests
