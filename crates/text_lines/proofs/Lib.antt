-- The laws of lines, in reading order: padded numbers, where lines begin, which line is of which kind, the entries of lines, and lines.
pub mod Padded
pub mod Places
pub mod Several
pub mod Apart
pub mod Rows
pub mod Openings
pub mod Bodies
-- The first cause in a text whose first lines are within the rules, in any format.
pub mod FirstCause
