-- Inner definitions, which only proofs rest on: the deepest existential of a clause.
pub mod InnerDeepest
