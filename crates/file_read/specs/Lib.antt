-- Reading the file of a forest: what its inner functions promise.
pub mod Inner
