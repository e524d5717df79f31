-- The laws of QDIMACS text, in reading order.
-- The format by stages says the same as the plain one: which text is the text of which tables (text_by_stages), and what is its first cause
-- (fault_by_stages). A text is the text of tables exactly if it has no cause (no_cause, nothing_wrong).
pub mod Staged
pub mod Causes
-- The scan of all lines, and the copy of what it stored.
pub mod Copies
pub mod Scans
pub mod Decided
-- A text is read in one way, and so has one answer.
pub mod Paths
pub mod Unique
pub mod Readings
-- The text that is written: entry by entry it is that of blocks and clauses.
pub mod Holdable
pub mod Accepted
pub mod Blockwise
-- Nothing is left open (read_settled, write_settled); what is written reads back (written_reads_back).
pub mod Settled
pub mod Written
pub mod RoundTrip
-- Both rules agree on write.
pub mod Agreed
