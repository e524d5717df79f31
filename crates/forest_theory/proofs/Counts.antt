-- Counts: a table has one list of them, none is over n, and the size of a set is the sum of the counts of its entry points.
use Prim.Native.Nat.{ℕ, ◌+◌, ◌≤◌}
use mathlib.Core.Path.{◌≡◌, refl, sym, ◌∙◌, subst}
use mathlib.Core.Bool.{Bool, true, false, false≢true}
use mathlib.Core.List.Memᴰ
use mathlib.Core.List.{List, [], ◌∷◌, ◌++◌, Memᴰ}
use mathlib.Core.Logic.{◌⊎◌, inl, inr, ⊎_elim, ◌↔◌}
use native.Mathlib.Omega.{arith}
use lib.ListN.{length}
use lib.Dec.{eqb}
use borrow.Author.Tests.{eqb-true, eq-eqb}
use Rattle.forest_theory.specs.Reach.{Variables}
use Rattle.forest_theory.specs.InnerVariables.{Lawful}
use Rattle.forest_theory.specs.Tables.{Table, ClassName, WellFormed, EntryPointOf, MemberBy}
use Rattle.terms.specs.Listed.{Ascending, Listed}
use Rattle.forest_theory.specs.Counts.{Numbered, Within, CountRow, Counted, sum, how_many, names_itself}
use Rattle.forest_theory.specs.InnerPassing.{RowsCount}
use Rattle.forest_theory.proofs.Choice.{both}
use Rattle.forest_theory.proofs.Climb.{Ends, above_class, entry_ends, ends_one}
use Rattle.forest_theory.proofs.Numbered.{numbered_one, numbered_most, numbered_none, numbered_same, numbered_plus, how_many_numbered}

-- The test tells the class names.
pub names_class : {X : Variables} {W : Table} {v : ℕ} → (names_itself X W v ≡ true) ↔ ClassName X W v
unfolding names_itself
names_class {X} {W} {v} = (
  λ t. let (e, i) = both (X.ex v) (eqb (W.cls v) v) t in record { existential = e; itself = eqb-true (W.cls v) v i },
  λ n. rw n.existential (eq-eqb (W.cls v) v n.itself),
)

-- So there are as many class names as pass it: the classes left, in a tally (rule 4.3).
pub names_numbered : {X : Variables} {W : Table} → Lawful X → Numbered (ClassName X W) (how_many (names_itself X W) X.count)
names_numbered {X} {W} lawful = numbered_same
    (λ v. (λ p. names_class.0 p.2, λ n. let (a, b) = lawful.within v n.existential in (a, b, names_class.1 n)))
    (how_many_numbered (names_itself X W) X.count)

-- The sum over a list with one number more.
pub sum_more : (f : ℕ → ℕ) (list : List ℕ) (a : ℕ) → sum f (list ++ (a ∷ [])) ≡ sum f list + f a
unfolding sum
sum_more f [] a = omega arith
sum_more f (b ∷ list) a = omega (arith, sum_more f list a)

-- v is in a class at or below one of some entry points.
record Under (X : Variables) (W : Table) (entries : List ℕ) (v : ℕ) : Type 0 where
  entry : ℕ
  listed : Memᴰ entry entries
  within : Within X W entry v

module _ {X : Variables} {W : Table} (formed : WellFormed X W) where
  -- What has variables in it or below is a class name.
  pub within_name : {c v : ℕ} → Within X W c v → ClassName X W c
  within_name {v = v} w = above_class formed ((formed.right v).class w.existential).name w.above

  -- So a row is right exactly if it is the number of variables in it and below, class name or not ...
  pub row_number : {counts : ℕ → ℕ} {v : ℕ} → CountRow X W counts v ↔ Numbered (Within X W v) (counts v)
  row_number {counts} {v} = (
    λ r. told r (names_itself X W v) refl,
    λ n. record { class = λ c. n; none = λ not. numbered_one n (numbered_none (λ u w. not (within_name w))) },
  )
    where
      told : CountRow X W counts v → (b : Bool) → names_itself X W v ≡ b → Numbered (Within X W v) (counts v)
      told r true t = r.class (names_class.0 t)
      told r false t =
          let not : ClassName X W v → ⊥ = λ c. false≢true (sym t ∙ names_class.1 c) in
          subst (Numbered (Within X W v)) (sym (r.none not)) (numbered_none (λ u w. not (within_name w)))

  -- ... and all are exactly if each is.
  pub counted_rows : {counts : ℕ → ℕ} → Counted X W counts ↔ RowsCount (Within X W) counts
  counted_rows = (λ c. record { row = λ v. row_number.0 (c.right v) }, λ r. record { right = λ v. row_number.1 (r.row v) })

  -- A row is right exactly if it is that of counts that are ...
  pub row_is : {counts true-counts : ℕ → ℕ} {v : ℕ} → Counted X W true-counts → CountRow X W counts v ↔ (counts v ≡ true-counts v)
  row_is {counts} {v = v} c = (
    λ r. numbered_one (row_number.0 r) (row_number.0 (c.right v)),
    λ e. row_number.1 (subst (Numbered (Within X W v)) (sym e) (row_number.0 (c.right v))),
  )

  -- ... so that two tables of counts that are right agree in every row.
  pub counts_one : {counts counts' : ℕ → ℕ} → Counted X W counts → Counted X W counts' → (v : ℕ) → counts v ≡ counts' v
  counts_one c d v = (row_is d).0 (c.right v)

  -- No count is over n.
  pub count_most : {counts : ℕ → ℕ} → Lawful X → Counted X W counts → (v : ℕ) → counts v ≤ X.count
  count_most lawful c v = numbered_most (λ u w. lawful.within u w.existential) (row_number.0 (c.right v))

  module _ {S : ℕ → ℕ → Type 0} {x : ℕ} {counts : ℕ → ℕ} (counted : Counted X W counts) where
    -- A variable stands below one entry point only: its climb ends there.
    entries_apart : {e f v : ℕ} → EntryPointOf X W S x e → EntryPointOf X W S x f → Within X W e v → Within X W f v → e ≡ f
    entries_apart {e} {f} {v} o p a b =
        let s = (entry_ends formed).0 o.entry in
        let t = (entry_ends formed).0 p.entry in
        let end : Ends X W _ (W.cls v) e _ = record { above = a.above; deep = s.deep; stop = s.stop } in
        (ends_one formed end (record { above = b.above; deep = t.deep; stop = t.stop })).0

    -- So the counts of entry points add up to the number of variables at or below them.
    under_sum : (entries : List ℕ) → Ascending entries → ((e : ℕ) → Memᴰ e entries → EntryPointOf X W S x e)
        → Numbered (Under X W entries) (sum counts entries)
    unfolding sum
    under_sum [] up points = numbered_none (λ v u. Memᴰ.not-nil u.listed)
    under_sum (e ∷ entries) up points = numbered_plus (row_number.0 (counted.right e)) apart parts
        (under_sum entries up.1 (λ f m. points f (Memᴰ.tail m)))
      where
        apart : (v : ℕ) → Within X W e v → Under X W entries v → ⊥
        apart v w u =
            let same = entries_apart (points e (Memᴰ.head refl)) (points u.entry (Memᴰ.tail u.listed)) w u.within in
            let less = up.0 u.entry u.listed in
            omega arith

        parts : (v : ℕ) → Under X W (e ∷ entries) v ↔ (Within X W e v ⊎ Under X W entries v)
        parts v = (
          λ u. ⊎_elim (λ q. inl (subst (λ (c : ℕ). Within X W c v) q u.within))
              (λ m. inr (record { entry = u.entry; listed = m; within = u.within })) (Memᴰ.cases_cons u.listed),
          λ s. ⊎_elim (λ w. record { entry = e; listed = Memᴰ.head refl; within = w })
              (λ u. record { entry = u.entry; listed = Memᴰ.tail u.listed; within = u.within }) s,
        )

    -- The sum over those entry points of x that P takes is the number of members by them ...
    pub size_numbered : {P : ℕ → Type 0} {entries : List ℕ} → ((e : ℕ) → P e → EntryPointOf X W S x e) → Listed P entries
        → Numbered (MemberBy X W P) (sum counts entries)
    size_numbered {entries = entries} points l = numbered_same
        (λ v. (
          λ u. record { existential = u.within.existential; entry = u.entry; entered = l.each u.entry u.listed; rises = _; below = u.within.above },
          λ m. let w : Within X W m.entry _ = record { existential = m.existential; rises = m.rises; above = m.below } in
              record { entry = m.entry; listed = l.all m.entry m.entered; within = w },
        ))
        (under_sum entries l.ascending (λ e m. points e (l.each e m)))

    -- ... and so the length of the list.
    pub size_is_length : {P : ℕ → Type 0} {entries set : List ℕ} → ((e : ℕ) → P e → EntryPointOf X W S x e) → Listed P entries
        → Listed (MemberBy X W P) set → sum counts entries ≡ length set
    size_is_length {set = set} points l m = numbered_one (size_numbered points l) (record { list = set; listed = m; size = refl })
