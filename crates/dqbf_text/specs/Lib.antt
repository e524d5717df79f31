-- DQDIMACS text: first the format, the text that is written, and what read and write promise; then what their inner functions do, which only proofs
-- rest on.
pub mod Format
pub mod Written
pub mod Reading
pub mod Stored
pub mod InnerGrammar
pub mod InnerSteps
pub mod InnerText
