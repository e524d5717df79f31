-- What C writes as numbers; and how an answer stands in the cells of a C caller.
pub mod Codes
pub mod InnerCells
pub mod InnerFormulas
