-- When a formula as lent is true: by its prefix, and with dependency lists.
pub mod Holds
pub mod Listed
