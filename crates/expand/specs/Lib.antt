-- What expanding promises, of the formula that `expand_clauses` defines; then what its inner functions do, which only proofs rest on.
pub mod Promise
pub mod InnerWriting
pub mod InnerOrders
