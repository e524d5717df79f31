-- The laws of chains and of sole tops, in reading order.
pub mod Chains
pub mod Gathering
pub mod Followed
pub mod Kept
pub mod SoleTops
