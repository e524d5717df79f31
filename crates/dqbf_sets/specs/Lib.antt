-- The set of a universal by dependency lists: Depends and Answers are what to believe, Inner is what inner functions promise.
pub mod Depends
pub mod Answers
pub mod Inner
