-- The definitions of truth, in reading order: by strategies, by the game; resolution paths, and dependence narrowed to sets.
pub mod Strategies
pub mod Game
pub mod Paths
pub mod Narrowing
