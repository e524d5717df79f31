-- Laws of the crate.
pub mod Larger
pub mod OnlyGrow
pub mod Copying
pub mod Telling
pub mod Settled
