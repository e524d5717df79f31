-- What the calls that ask of a forest promise: Causes and Answers are what to believe, the others are inner.
pub mod Causes
pub mod Answers
pub mod InnerWanted
pub mod InnerOrders
