-- A file verified: what its verdict says, and what the inner functions promise.
pub mod InnerVerified
