-- What a reader has to believe.
pub mod Lent
pub mod Tables
pub mod Meaning
pub mod Causes
pub mod Clause
-- Inner, which nobody needs to believe.
pub mod InnerScan
pub mod InnerLookup
pub mod InnerLevels
pub mod InnerOrders
