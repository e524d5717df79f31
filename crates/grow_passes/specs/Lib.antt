-- To be believed, since the promises of build and add cite it: what stays of lent rows.
pub mod Past
-- Inner, which only proofs rest on: what each pass makes of loose rows.
pub mod InnerRows
