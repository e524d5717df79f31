-- Inner: what is looked for behind the tables of a text that is to be written. What a reader must believe is in Stored, and in the orders of the calls.
use Rattle.terms.specs.Says.{Answer}
use Rattle.std.specs.Prelude.{ℕ, List, [], ◌∷◌, ◌++◌}
use Rattle.terms.specs.Refusals.{Causes}
use Rattle.text_write.specs.Texts.{Overlong}
use Rattle.text_write.specs.Stored.{ShortOut, WritesBy}

-- 15, 14
abbrev pub write_order : List ℕ → List ℕ → List Causes
write_order text out = Overlong text ∷ ShortOut text out ∷ []

-- what is promised once the tables are accepted
abbrev pub WriteIs : List ℕ → List ℕ → List ℕ → Answer ℕ → Type 0
WriteIs text out = WritesBy (write_order text out) text out

-- and what by an order of causes before 15 and 14
abbrev pub WritesAfter : List Causes → List ℕ → List ℕ → List ℕ → Answer ℕ → Type 0
WritesAfter order text out = WritesBy (order ++ write_order text out) text out
