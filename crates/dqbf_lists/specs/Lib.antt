-- Dependency lists: Lists, Causes and Answers are what to believe, Inner is what inner functions promise.
pub mod Lists
pub mod Causes
pub mod Answers
pub mod Inner
