-- Where either sign has no top, both have none. Where each has at most one, both have that which is the same. Of several nothing is said.
use Rattle.sets_occurrences.proofs.SoleTops.{both_none, both_tops}
use Rattle.sets_occurrences.proofs.soles.sole_both.Goals as goal

-- the negation has none
pub returns-in-Ok-None : goal.returns-in-Ok-None
returns-in-Ok-None c = record { sole = both_none c.in-Ok-None.field-0-is (λ e b. b.1) c.in-Ok-None.ensures.sole }

-- the negation has one
pub returns-in_ok-one-in-Ok : goal.returns-in_ok-one-in-Ok
returns-in_ok-one-in-Ok c = record { sole = both_tops c.same.ensures.same c.in_ok-one-in-Ok.ensures.sole c.in-Ok.ensures.sole }

-- the negation has several, and x itself none
pub returns-in-None : goal.returns-in-None
returns-in-None c = record { sole = both_none c.in-None.is (λ e b. b.0) c.in_ok-sole_along-in-Err.ensures.sole }
