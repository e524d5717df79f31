-- Laws of the crate.
pub mod Draining
pub mod Sizing
pub mod NotedTops
