-- The laws of copies, in reading order.
-- Stores one after another, and literals by their signs.
pub mod Storing
pub mod Naming
-- The clauses: a clause tested and copied, and the literal total.
pub mod Testing
pub mod Copying
pub mod Totals
-- The numbers of the copies.
pub mod Numbering
-- The copies by their numbers, and by the list of members.
pub mod Tied
-- The clause table of the result, cut at its zeros.
pub mod Cutting
