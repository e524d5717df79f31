-- The file of a forest: its numbers and records, where they begin, the causes of refusal, and what reading and writing promise.
pub mod Numbers
pub mod Layout
pub mod Places
pub mod Causes
pub mod Promises
-- Inner: what functions look for one after the other, which only proofs rest on.
pub mod InnerOrders
pub mod InnerPlaces
