-- The text that is written. What to believe: its bytes, its numbers, its lines, and what writing promises. The inner files say what inner functions
-- do, which only proofs rest on.
pub mod Texts
pub mod Numbers
pub mod Written
pub mod Stored
pub mod InnerText
pub mod InnerBytes
pub mod InnerOrders
