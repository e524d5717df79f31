-- Expanding keeps a formula's truth.
-- Copies of clauses, and the argument for any formula and its expansion.
pub mod Copies
pub mod Expanding
pub mod Playing
-- The formula as it is written: numbers, the order of what blocks name, levels by it, and the tables.
pub mod Numbers
pub mod Order
pub mod Levels
pub mod Placing
pub mod Named
pub mod Tables
pub mod Expanded
-- Which sets serve.
pub mod Serving
-- The story.
pub mod Story
pub mod StoryTold
-- The theorems.
pub mod Claims
