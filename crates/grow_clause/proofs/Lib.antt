-- The laws of a clause put in as a star.
pub mod Stars
