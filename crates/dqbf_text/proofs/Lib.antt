-- The laws of DQDIMACS text, in reading order.
-- List lines. The format by stages says the same as the plain one: which text is the text of which tables (text_by_stages), and what is its first cause
-- (fault_by_stages). A text is the text of tables exactly if it has no cause (no_cause, nothing_wrong).
pub mod Letters
pub mod Staged
pub mod Causes
-- What may not stand where, and what a line adds.
pub mod Faults
pub mod Scans
pub mod Decided
-- A text is read in one way, and so has one answer (read_settled); without lists it is the text of QDIMACS (plain_text), and without list
-- lines it has the causes of QDIMACS (plain_fault).
pub mod Unique
pub mod Readings
pub mod Settled
pub mod Agreement
-- The text that is written: entry by entry it is that of blocks, lists and clauses; and that it reads back (text_reads_back, written_reads_back).
pub mod Bytes
pub mod Holdable
pub mod Blockwise
pub mod Written
pub mod RoundTrip
pub mod Accepted
-- Worked examples.
pub mod Examples
