-- That reduced clauses change nothing (rule 15.1), in reading order.
-- Which joins count: where those along which a step may go are kept, all is kept.
pub mod Carried
-- What a clause keeps when it is reduced, and a table of clauses, some of them reduced, in any order.
pub mod Clauses
-- The forest and the sets are the same.
pub mod Plans
-- A reduction of an accepted table can be lent.
pub mod Accepted
-- What the calls answer and leave is the same.
pub mod Orders
pub mod Calls
pub mod AllSets
pub mod Adding
-- Clauses reduced, and two wrong readings refuted.
pub mod Sample
