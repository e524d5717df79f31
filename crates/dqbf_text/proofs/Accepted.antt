-- Tables that the check of lists accepts can be written, and read back as they are lent, under either rule.
use Rattle.std.specs.Prelude.{Ok}
use Rattle.terms.specs.Says.{Answer}
use Rattle.terms.specs.declared.ListedCounts.{ListedCounts}
use Prim.Native.Nat.{ℕ, ◌≤◌, ◌<◌}
use mathlib.Core.Path.{◌≡◌, refl, subst}
use mathlib.Core.Bool.{true, false}
use mathlib.Core.List.{List}
use mathlib.Core.Logic.{◌≢◌, inl, inr, ⊎_elim}
use native.Mathlib.Decide.{ℕ_discrete}
use native.Mathlib.Omega.{arith}
use lib.ListN.{length, take}
use Rattle.terms.specs.Refusals.{None, NoneOf}
use Rattle.terms.proofs.Verdicts.{at0_none}
use Rattle.formula.specs.Tables.{at, opens}
use Rattle.formula.proofs.Scanned.{open_end}
use Rattle.forest_tables.specs.Formula.{universal}
use Rattle.forest_tables.proofs.Agreeing.{universal_within}
use Rattle.formula.specs.Lent.{Formula}
use Rattle.formula_rules.specs.Rules.{check_order}
use Rattle.formula_rules.proofs.Orders.{limits}
use Rattle.terms.proofs.Common.{by_test}
use Rattle.text_write.specs.InnerBytes.{SmallEntries}
use Rattle.text_write.specs.Texts.{TEXT-MOST, overlong}
use Rattle.text_write.proofs.Outputs.{text_front}
use Rattle.text_qdimacs.proofs.Accepted.{groups_from, small, holdable}
use Rattle.dqbf_lists.specs.Causes.{ListCause, check_lists_order}
use Rattle.dqbf_text.specs.Reading.{Tables, ListedReadIs}
use Rattle.dqbf_text.specs.InnerText.{listed_by_entries, WritableLists}
use Rattle.dqbf_text.specs.Stored.{listed_text, WritesListed}
use Rattle.dqbf_text.proofs.Holdable.{Lists, no_list, list, list_end, member}
use Rattle.dqbf_text.proofs.Blockwise.{text_is}
use Rattle.dqbf_text.proofs.RoundTrip.{ReadsBack, text_reads_back}

module _ {n : ℕ} {es ds : List ℕ} (few : n ≤ 4096) (none : None (ListCause n es ds)) where
  -- an accepted y is one of 1 to n, and so is an accepted x
  first_some : (i : ℕ) → i < length ds → opens ds i ≡ true → at ds i ≢ 0
  first_some i more open' z = none 25 i (ListCause.outside refl (more, open') (inl z))

  first_most : (i : ℕ) → i < length ds → opens ds i ≡ true → at ds i < 100000
  first_most i more open' = let low : ¬ (n < at ds i) = λ over. none 25 i (ListCause.outside refl (more, open') (inr over)) in omega arith

  member_most : (i : ℕ) → i < length ds → opens ds i ≡ false → at ds i ≢ 0 → at ds i < 100000
  member_most i more shut some =
      by_test (universal n es (at ds i)) (λ u. let low = (universal_within n es (at ds i) u).1 in omega arith)
      (λ f. absurd (none 26 i (ListCause.no_universal refl (more, shut, some) f)))

  accepted_lists : Lists true ds
  accepted_lists =
      groups_from ds Lists no_list (λ i more t. (first_some i more t, λ tail b. list (first_some i more t) (first_most i more t) b)) (λ tail b. list_end b)
      (λ i more f some tail b. member some (member_most i more f some) b)
      (λ i q f. none 11 (length ds) (ListCause.ends_inside refl refl (open_end ds i (omega arith) f))) (length ds) 0 (omega arith)

  small_lists : SmallEntries ds
  small_lists i more = by_test (opens ds i) (λ t. first_most i more t) (λ f. named f (ℕ_discrete (at ds i) 0))
    where
      named : opens ds i ≡ false → Dec (at ds i ≡ 0) → at ds i < 100000
      named f (yes z) = omega arith
      named f (no some) = member_most i more f some

module _ (rule : ℕ) (f : Formula) (ds : List ℕ) (none : NoneOf (check_lists_order rule f ds)) where
  -- without its lists the formula is one that check accepts
  without : NoneOf (check_order rule f)
  without = (
    none.0,
    (
      none.1.0,
      (
        at0_none 2 (⊎_elim (λ long. none.1.1.0 2 0 (refl, refl, inl long)) (λ long. none.1.1.0 2 0 (refl, refl, inr (inl long)))),
        (none.1.1.1.0, (none.1.1.1.1.0, tt)),
      ),
    ),
  )

  -- what the writer asks for
  pub fit : WritableLists f.n f.prefix f.clauses ds
  fit =
      let (few, short, room) = limits rule f without in
      let (entries, literals) = small rule f without in
      let long : ¬ (16384 < length ds) = λ over. none.1.1.0 2 0 (refl, refl, inr (inr over)) in
      ((omega arith, short, room, entries, literals), omega arith, small_lists few none.1.1.1.1.1.0)

  lists_held : Lists true ds
  lists_held = let (few, short, room) = limits rule f without in accepted_lists few none.1.1.1.1.1.0

  -- the text entry by entry is that of blocks, lists and clauses
  pub written_text : listed_by_entries f.n f.prefix f.clauses ds ≡ listed_text f ds
  written_text = text_is f.n f.prefix f.clauses ds (holdable rule f without) lists_held

-- What write leaves in front in the buffer reads back as the tables that were lent.
pub written_reads_back : (rule : ℕ) (f : Formula) (ds : List ℕ) (before after : Tables) → length f.prefix ≤ length before.0
    → length f.clauses ≤ length before.1 → length ds ≤ length before.2
    → (out out' : List ℕ) (count : ℕ) → WritesListed rule f ds out out' (Ok count) → (r : Answer ListedCounts) → ListedReadIs (take count out') before after r
    → ReadsBack f.n f.prefix f.clauses ds before after r
written_reads_back rule f ds before after p c l out out' count w r read =
    let none = w.0 in
    let accepted : NoneOf (check_lists_order rule f ds) =
    (none.0, (none.1.0, (none.1.1.0, (none.1.1.1.0, (none.1.1.1.1.0, (none.1.1.1.1.1.0, tt)))))) in
    let fits : ¬ (TEXT-MOST < length (listed_text f ds)) = λ long. none.1.1.1.1.1.1.0 15 TEXT-MOST (overlong long) in
    text_reads_back f.n f.prefix f.clauses ds before after p c l (holdable rule f (without rule f ds accepted)) (lists_held rule f ds accepted)
    (omega arith) r (subst (λ (t : List ℕ). ListedReadIs t before after r) (text_front w.1) read)
