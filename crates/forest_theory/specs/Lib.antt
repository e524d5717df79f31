-- The definitions of connection, in reading order.
-- To be believed, since promises cite them: reach, tables, the forest, growth, ascending lists, counts.
pub mod Reach
pub mod Tables
pub mod Forest
pub mod Growth
pub mod Counts
-- Inner, which only proofs and worked examples rest on: the climb, the rows after a clause, both and reach as they compute, counts passed up.
pub mod InnerClimb
pub mod InnerFused
pub mod InnerSearch
pub mod InnerFusing
pub mod InnerPassing
pub mod InnerGrowth
pub mod InnerVariables
pub mod InnerMembers
