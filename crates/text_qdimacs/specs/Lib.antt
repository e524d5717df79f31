-- QDIMACS text: first what read and write promise, of the format that `text_lines` has, then what the scan promises, which only proofs rest on.
pub mod Reading
pub mod Stored
pub mod InnerScans
