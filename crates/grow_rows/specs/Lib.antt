-- Inner definitions, which only proofs rest on: what the functions do that make exact rows in lent tables, and count.
pub mod InnerRows
