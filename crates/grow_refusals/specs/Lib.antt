-- To be believed, since the promise of add cites it: what add refuses of the clause and of the tally.
pub mod Admitted
