-- The laws of the reading rules, in reading order.
-- What joining blocks is, and that the table carries the joined blocks.
pub mod Joining
pub mod Blocks
-- The scan of a prefix under rule 2, that it counts joined blocks, and what it lets pass.
pub mod Begun
pub mod Scanned
pub mod Passing
-- The joined prefix as it is written from the left; rule 1 has nothing against it.
pub mod Rest
pub mod Short
pub mod Accepted
pub mod Written
-- The order of refusals under a rule.
pub mod Orders
pub mod Reading
-- Where rule 1 accepts, both agree.
pub mod Agreement
-- Worked examples.
pub mod Examples
