-- What a reader has to believe.
pub mod Formula
pub mod Lent
pub mod Causes
-- Inner, which nobody needs to believe.
pub mod InnerTabled
pub mod InnerRows
pub mod InnerCounting
