-- What a call leaves in a lent table that it fills (rule 7.5): rows or bytes past those written stay.
use Rattle.std.specs.Prelude.{List, ◌++◌, length, drop}

-- a table with a list in front, and past it the rows that were there
abbrev pub overwritten : {A : Type 0} → List A → List A → List A
overwritten list before = list ++ drop (length list) before
