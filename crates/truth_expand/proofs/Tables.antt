-- The tables of the expanded formula hold its blocks and its clauses.
use Prim.Native.Nat.{ℕ}
use mathlib.Core.Path.{◌≡◌, refl, sym, ◌∙◌, ap}
use mathlib.Core.Bool.{Bool, true, false}
use mathlib.Core.List.Memᴰ
use mathlib.Core.List.{List, [], ◌∷◌, ◌++◌, map, Memᴰ}
use mathlib.Core.Logic.{⊎_elim, ◌≢◌}
use native.Mathlib.Omega.{arith}
use borrow.Author.Tests.{ne_eqb}
use lib.IntN.{ℤ, pos}
use Rattle.terms.specs.Literals.{variable_of}
use Rattle.terms.specs.Refusals.{None}
use Rattle.formula.specs.Causes.{ClauseCause}
use Rattle.formula.specs.Meaning.{is_zero, blocks, clauses}
use Rattle.formula.specs.Tables.{cut}
use Rattle.formula_rules.specs.Joined.{joined_blocks}
use Rattle.formula_rules.proofs.Blocks.{blocks_whole, joined_whole, cut_table}
use Rattle.expand_clauses.specs.Expansion.{without, clause_table}
use Rattle.expand_clauses.specs.InnerCopies.{expanded_block, expanded_prefix, named, copies, expanded_list, expanded_clauses}
use Rattle.truth_formula.proofs.Entries.{literal_within}
use Rattle.truth_expand.proofs.Copies.{Naming, same, new, naming, without_member, copies_member}
use Rattle.truth_expand.proofs.Expanding.{expanded_of}
use Rattle.truth_expand.proofs.Placing.{expanded_whole}

module _ (x : ℕ) (copy : ℕ → ℕ) where
  pub blocks_expanded : (es : List ℕ) → blocks (expanded_prefix x copy es) ≡ joined_blocks (map (expanded_block x copy) (blocks es))
  unfolding expanded_prefix blocks
  blocks_expanded es =
      let bs = map (expanded_block x copy) (blocks es) in
      cut_table (joined_blocks bs) (joined_whole bs (expanded_whole x copy (blocks es) (blocks_whole es)))

  -- A table of clauses none of which has a 0 holds these clauses.
  abbrev Full : List ℤ → Type 0
  Full c = (l : ℤ) → Memᴰ l c → variable_of l ≢ 0

  cut_clause : (c rest : List ℤ) → Full c → cut (λ literal. is_zero (variable_of literal)) (c ++ (pos 0 ∷ rest)) ≡ c ∷ cut (λ literal. is_zero (variable_of literal)) rest
  unfolding cut
  cut_clause [] rest f = refl
  cut_clause (l ∷ c) rest f = rw (ne_eqb (variable_of l) 0 (f l (Memᴰ.head refl)), cut_clause c rest (λ k i. f k (Memᴰ.tail i)))

  clauses_table : (cs : List (List ℤ)) → ((c : List ℤ) → Memᴰ c cs → Full c) → clauses (clause_table cs) ≡ cs
  unfolding clauses clause_table cut
  clauses_table [] f = refl
  clauses_table (c ∷ cs) f =
      cut_clause c (clause_table cs) (f c (Memᴰ.head refl)) ∙ ap (λ (r : List (List ℤ)). c ∷ r) (clauses_table cs (λ d i. f d (Memᴰ.tail i)))

  copies_full : (b : Bool) (cs : List (List ℤ)) → ((c : List ℤ) → Memᴰ c cs → Full c) → (d : List ℤ) → Memᴰ d (copies b x copy cs) → Full d
  copies_full b cs f d i l j =
      let (c, m, _, q) = copies_member b x copy cs i in
      let (k, h, e) = Memᴰ.of_map (named b copy) (without x c) (rw q at j) in
      go k l (f c m k (without_member x c h).0) (rw e at (naming copy b k))
    where
      go : (k l : ℤ) → variable_of k ≢ 0 → Naming copy b k l → variable_of l ≢ 0
      go k l n (same q none) z = n (sym (ap variable_of q) ∙ z)
      go k l n (new t some w s) z = some (sym w ∙ z)

  pub clauses_expanded : {n : ℕ} (ls : List ℤ) → None (ClauseCause n ls) → clauses (expanded_clauses x copy ls) ≡ expanded_of x copy (clauses ls)
  unfolding expanded_clauses expanded_list
  clauses_expanded ls none =
      clauses_table (expanded_of x copy (clauses ls))
      (λ d i. ⊎_elim (copies_full false (clauses ls) full d) (copies_full true (clauses ls) full d)
      (Memᴰ.append_cases (copies false x copy (clauses ls)) i))
    where
      full : (c : List ℤ) → Memᴰ c (clauses ls) → (l : ℤ) → Memᴰ l c → variable_of l ≢ 0
      full c m l i z = let (low, _) = literal_within none c m l i in omega arith
