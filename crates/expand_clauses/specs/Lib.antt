-- The definitions of the expanded formula and of its literal total; then what inner functions say of the tables that they fill.
pub mod Expansion
pub mod Total
pub mod InnerCopies
pub mod InnerCopied
