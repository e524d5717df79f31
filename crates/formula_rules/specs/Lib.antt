-- The reading rules: Joined and Rules are what to believe, the others are inner.
pub mod Joined
pub mod Rules
pub mod InnerScan
pub mod InnerWriting
pub mod InnerReading
