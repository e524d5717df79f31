-- The text that is written entry by entry is that of blocks and clauses (text_is), for tables that a text can hold.
use Prim.Native.Nat.{ℕ, suc}
use mathlib.Core.Path.{◌≡◌, refl, sym, ap, ap₂, ◌∙◌}
use mathlib.Core.Bool.{Bool, true, false, cond}
use mathlib.Core.List.{List, [], ◌∷◌, ◌++◌, append_assoc, map, flatten}
use mathlib.Core.Logic.{◌⊎◌, inl, inr, ◌≢◌}
use native.Mathlib.Omega.{arith}
use borrow.Author.Tests.{ne_eqb}
use lib.Dec.{eqb}
use lib.ListN.{length}
use lib.IntN.{ℤ, pos, nat_abs}
use Rattle.formula.specs.Tables.{push, cut}
use Rattle.formula.specs.Meaning.{blocks, clauses}
use Rattle.text_write.specs.Texts.{LF, SPACE, ZERO}
use Rattle.text_write.specs.Numbers.{decimal, digits_of}
use Rattle.text_write.specs.Written.{mark_word, literal_word, closed_line, block_line, clause_line, problem_line, text_of}
use Rattle.text_write.specs.InnerText.{spaced, ended, prefix_text, clause_text, clause_count, text_by_entries}
use Rattle.text_qdimacs.proofs.Holdable.{Blocks, no_block, block, block_end, variable, Clauses, no_clause, clause_end, literal, Holdable}

-- There is one clause for each 0.
pub count_is : (ls : List ℤ) → clause_count ls ≡ length (clauses ls)
unfolding clause_count clauses cut
count_is [] = refl
count_is (z ∷ more) = go (eqb (nat_abs z) 0) (clauses more) (count_is more)
  where
    go : (b : Bool) (cs : List (List ℤ)) → clause_count more ≡ length cs
        → cond b (suc (clause_count more)) (clause_count more) ≡ length (cond b ([] ∷ cs) (push z cs))
    go true cs e = ap suc e
    go false [] e = e
    go false (c ∷ cs) e = e

-- The lines of blocks, and the text of a prefix inside a block: the rest of its line, and the other blocks.
abbrev pub block_lines : List (List ℕ) → List ℕ
block_lines bs = flatten (map block_line bs)

record BlockRest (es : List ℕ) : Type 0 where
  vs : List ℕ
  bs : List (List ℕ)
  is : blocks es ≡ vs ∷ bs
  text : prefix_text false es ≡ SPACE ∷ (closed_line (map decimal vs) ++ block_lines bs)

abbrev BlocksAre : Bool → List ℕ → Type 0
BlocksAre true P = prefix_text true P ≡ block_lines (blocks P)
BlocksAre false es = BlockRest es

-- A number in front of an open block.
pub blocks_push : (v : ℕ) (more vs : List ℕ) (bs : List (List ℕ)) → v ≢ 0 → blocks more ≡ vs ∷ bs → blocks (v ∷ more) ≡ (v ∷ vs) ∷ bs
unfolding blocks cut
blocks_push v more vs bs z is = rw (ne_eqb v 0 z, is)

-- A variable in its line.
pub variable_text : (v : ℕ) (more : List ℕ) → v ≢ 0 → prefix_text false (v ∷ more) ≡ SPACE ∷ (decimal v ++ prefix_text false more)
unfolding prefix_text spaced ended
variable_text v more z = rw (ne_eqb v 0 z)

blocks_text : {first : Bool} {P : List ℕ} → Blocks first P → BlocksAre first P
unfolding prefix_text mark_word spaced ended decimal digits_of blocks cut block_line closed_line flatten
blocks_text no_block = refl
blocks_text (block {mark} {more} which b) =
    let r = blocks_text b in
    ap (λ (t : List ℕ). mark_word mark ++ t) r.text
    ∙ sym (ap block_lines (blocks_push mark more r.vs r.bs (nonzero which) r.is) ∙ line r.vs r.bs which)
  where
    nonzero : (mark ≡ 1) ⊎ (mark ≡ 2) → mark ≢ 0
    nonzero (inl e) z = omega arith
    nonzero (inr e) z = omega arith

    line : (vs : List ℕ) (bs : List (List ℕ)) → (mark ≡ 1) ⊎ (mark ≡ 2)
        → block_lines ((mark ∷ vs) ∷ bs) ≡ mark_word mark ++ (SPACE ∷ (closed_line (map decimal vs) ++ block_lines bs))
    line vs bs (inl e) = rw e
    line vs bs (inr e) = rw e
blocks_text (block_end {more} b) = record { vs = []; bs = blocks more; is = refl; text = ap (λ (t : List ℕ). SPACE ∷ ZERO ∷ LF ∷ t) (blocks_text b) }
blocks_text (variable {entry = v} {more = more} z small b) =
    let r = blocks_text b in
    record {
      vs = v ∷ r.vs;
      bs = r.bs;
      is = blocks_push v more r.vs r.bs z r.is;
      text =
          variable_text v more z ∙ ap (λ (t : List ℕ). SPACE ∷ (decimal v ++ t)) r.text
          ∙ ap (λ (t : List ℕ). SPACE ∷ t) (sym (append_assoc (decimal v) (SPACE ∷ closed_line (map decimal r.vs)) (block_lines r.bs)));
    }

-- The lines of clauses, and the text of a clause table inside a clause, likewise.
abbrev pub clause_lines : List (List ℤ) → List ℕ
clause_lines cs = flatten (map clause_line cs)

record ClauseRest (first : Bool) (zs : List ℤ) : Type 0 where
  ls : List ℤ
  cs : List (List ℤ)
  is : clauses zs ≡ ls ∷ cs
  text : clause_text first zs ≡ spaced first (clause_line ls ++ clause_lines cs)

abbrev ClausesAre : Bool → List ℤ → Type 0
ClausesAre true C = clause_text true C ≡ clause_lines (clauses C)
ClausesAre false zs = ClauseRest false zs

clause_whole : (first : Bool) (zs : List ℤ) → ClauseRest first zs → ClausesAre first zs
unfolding spaced flatten
clause_whole true zs r = r.text ∙ sym (ap clause_lines r.is)
clause_whole false zs r = r

-- A literal in its line.
pub literal_text : (first : Bool) (z : ℤ) (more : List ℤ) → (nat_abs z ≡ 0 → ⊥)
    → clause_text first (z ∷ more) ≡ spaced first (literal_word z ++ clause_text false more)
unfolding clause_text ended
literal_text first z more some = rw (ne_eqb (nat_abs z) 0 some)

-- A literal in front of an open clause.
clauses_push : (z : ℤ) (more ls : List ℤ) (cs : List (List ℤ)) → nat_abs z ≢ 0 → clauses more ≡ ls ∷ cs → clauses (z ∷ more) ≡ (z ∷ ls) ∷ cs
unfolding clauses cut
clauses_push z more ls cs some is = rw (ne_eqb (nat_abs z) 0 some, is)

clauses_text : {first : Bool} {C : List ℤ} → Clauses first C → ClausesAre first C
unfolding clause_text literal_word spaced ended decimal digits_of clauses cut clause_line closed_line flatten
clauses_text no_clause = refl
clauses_text (clause_end {first} {more} b) =
    clause_whole first (pos 0 ∷ more)
    (record { ls = []; cs = clauses more; is = refl; text = ap (λ (t : List ℕ). spaced first (ZERO ∷ LF ∷ t)) (clauses_text b) })
clauses_text (literal {first} {entry = z} {more = more} some small b) =
    let r = clauses_text b in
    clause_whole first (z ∷ more)
    (record {
      ls = z ∷ r.ls;
      cs = r.cs;
      is = clauses_push z more r.ls r.cs some r.is;
      text =
          literal_text first z more some
          ∙ ap (spaced first)
          (ap (λ (t : List ℕ). literal_word z ++ t) r.text ∙ sym (append_assoc (literal_word z) (SPACE ∷ clause_line r.ls) (clause_lines r.cs)));
    })

-- The lines of tables that a text can hold, and the whole text: such are the tables that check accepts.
pub prefix_lines : {P : List ℕ} → Blocks true P → prefix_text true P ≡ block_lines (blocks P)
prefix_lines b = blocks_text b

pub clause_lines_lem : {C : List ℤ} → Clauses true C → clause_text true C ≡ clause_lines (clauses C)
clause_lines_lem c = clauses_text c

pub text_is : (n : ℕ) (prefix : List ℕ) (table : List ℤ) → Holdable n prefix table → text_by_entries n prefix table ≡ text_of n prefix table
unfolding text_by_entries text_of problem_line
text_is n prefix table h =
    ap₂ (λ (a b : List ℕ). a ++ b) (ap (problem_line n) (count_is table))
    (ap₂ (λ (a b : List ℕ). a ++ b) (prefix_lines h.blocks) (clause_lines_lem h.all_clauses))
