-- The theorem for C.
pub mod Claims
