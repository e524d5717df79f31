-- The records of a file one after the other: what the walk over them finds.
pub mod InnerLaid
pub mod InnerWidths
