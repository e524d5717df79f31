-- Inner definitions, which only proofs rest on: loose rows, and what joining two chains in them does.
pub mod InnerLoose
