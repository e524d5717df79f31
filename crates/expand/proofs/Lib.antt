-- The laws of expansion, in reading order.
-- The prefix: the parts of a block, and the pass over all of them.
pub mod Blocking
pub mod Laying
-- What the call comes to once the set is found; that what was lent settles it, and that both rules agree.
pub mod Outcome
pub mod Tight
-- Check accepts the result.
pub mod Accepted
-- A worked example.
pub mod Sample
