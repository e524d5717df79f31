-- Where each clause begins: a table that is filled clause by clause, and what its rows say.
use Prim.Native.Nat.{ℕ, suc, ◌+◌, ◌-◌, ◌≤◌, ◌<◌}
use mathlib.Core.Path.{◌≡◌, sym, ap, subst, ◌∙◌}
use mathlib.Core.Bool.{true, false}
use mathlib.Core.List.{List, [], ◌∷◌, map, Memᴰ}
use mathlib.Core.Logic.{◌≢◌, ◌↔◌, by_cases}
use native.Mathlib.Decide.{dec_lt, ℕ_discrete}
use native.Mathlib.Nat.{add-zero, zero-add}
use native.Mathlib.Omega.{arith}
use lib.IntN.{ℤ}
use lib.ListN.{length, get_or, set, take, drop, length-set}
use lib.Seq.{get_or-set_same, get_or-set_other}
use Rattle.terms.proofs.Common.{clash}
use Rattle.terms.specs.Literals.{variable_of}
use Rattle.formula.specs.InnerLookup.{NextZero}
use Rattle.formula.specs.Meaning.{clauses, always_true}
use Rattle.formula.proofs.Lookups.{clauses_closed}
use Rattle.formula.proofs.Signs.{connected_all}
use Rattle.formula.specs.Tables.{at}
use Rattle.forest_entries.specs.InnerFlags.{Has}
use Rattle.forest_entries.proofs.Flags.{connects_all}
use Rattle.path_check.specs.Paths.{clause_at, HasVariable}
use Rattle.path_check.specs.Causes.{NumberOver}
use Rattle.path_check.specs.InnerWalk.{StandsFrom, Begin, idle, from, RowOf, Rows, Known, Small}

-- What stands from start up to the 0 at z is the clause with the number k: so its row is the row of that clause.
row_begin : {ls : List ℤ} {k start z row : ℕ} → NextZero ls start z → z < length ls → take (z - start) (drop start ls) ≡ clause_at ls k → RowOf ls start z row → Begin ls k row
row_begin next closed is (RowOf.idle q t) = idle q (subst (λ c. always_true c ≡ true) is t)
row_begin {start = start} {z = z} next closed is (RowOf.from q t) = from start z q (record { next = next; closed = closed; is = is; not-true = subst (λ c. always_true c ≡ false) is t })

-- The clauses before start have their rows, and those from start on follow them.
pub record Filling (ls : List ℤ) (begins : List ℕ) (count start : ℕ) : Type 0 where
  pub within : start ≤ length ls
  pub few : count ≤ start
  pub whole : length (clauses ls) ≡ count + length (clauses (drop start ls))
  pub same : (k : ℕ) → get_or (clauses ls) (count + k) [] ≡ get_or (clauses (drop start ls)) k []
  pub size : length begins ≡ 16384
  pub rows : (k : ℕ) → k < count → Begin ls k (get_or begins k 0)

pub fill_none : (ls : List ℤ) (begins : List ℕ) → length begins ≡ 16384 → Filling ls begins 0 0
fill_none ls begins size = record {
  within = omega arith;
  few = omega arith;
  whole = omega arith;
  same = λ k. ap (λ j. get_or (clauses ls) j [])
      (zero-add k);
  size = size;
  rows = λ k l. absurd (omega arith);
}

module _ {ls : List ℤ} {begins : List ℕ} {count start : ℕ} (f : Filling ls begins count start) (short : length ls ≤ 16384) where
  -- One clause more.
  pub fill_more : (z row : ℕ) → NextZero ls start z → z < length ls → RowOf ls start z row → Filling ls (set begins count row) (count + 1) (z + 1)
  fill_more z row next closed is =
      let low = next.from in
      let few = f.few in
      let sum = f.whole in
      let size = f.size in
      let shorter : length (clauses (drop start ls)) ≡ suc (length (clauses (drop (z + 1) ls))) = ap length split in
      record {
        within = omega arith;
        few = omega arith;
        whole = omega arith;
        same = λ k. let q : count + 1 + k ≡ count + suc k = omega arith in ap (λ j. get_or (clauses ls) j []) q ∙ f.same (suc k) ∙ ap (λ cs. get_or cs (suc k) []) split;
        size = length-set begins count row ∙ size;
        rows = λ k l.
            by_cases (ℕ_discrete k count)
            (λ q. subst (λ j. Begin ls j (get_or (set begins count row) j 0)) (sym q) (subst (Begin ls count) (sym (get_or-set_same begins count row 0 (omega arith))) (row_begin next closed here is)))
            (λ other. subst (Begin ls k) (sym (get_or-set_other begins count k row 0 other)) (f.rows k (omega arith)));
      }
    where
      split : clauses (drop start ls) ≡ take (z - start) (drop start ls) ∷ clauses (drop (z + 1) ls)
      split = clauses_closed ls start z next closed

      here : take (z - start) (drop start ls) ≡ clause_at ls count
      here = sym (ap (λ j. get_or (clauses ls) j []) (sym (add-zero count)) ∙ f.same 0 ∙ ap (λ cs. get_or cs 0 []) split)

  -- No clause is left.
  pub fill_all : clauses (drop start ls) ≡ [] → (count ≡ length (clauses ls)) × Rows ls begins count
  fill_all none =
      let left : length (clauses (drop start ls)) ≡ 0 = ap length none in
      let few = f.few in
      let within = f.within in
      let sum = f.whole in
      let size = f.size in
      (omega arith, record { few = omega arith; room = omega arith; rows = f.rows })

-- A row that is 0 is that of a clause that is always true, and any other says where its clause begins.
pub begin_idle : {ls : List ℤ} {k row : ℕ} → Begin ls k row → row ≡ 0 → always_true (clause_at ls k) ≡ true
begin_idle (idle _ t) z = t
begin_idle (from start end q f) z = absurd (omega arith)

pub begin_from : {ls : List ℤ} {k row : ℕ} → Begin ls k row → row ≢ 0 → (end : ℕ) × StandsFrom ls k (row - 1) end
begin_from (idle q t) some = absurd (some q)
begin_from {ls} {k} {row} (from start end q f) some = let e : start ≡ row - 1 = omega arith in (end, subst (λ s. StandsFrom ls k s end) e f)

-- The row of a clause that is not always true is not 0.
pub begin_plain : {ls : List ℤ} {k row : ℕ} → Begin ls k row → always_true (clause_at ls k) ≡ false → row ≢ 0
begin_plain (idle _ t) plain z = clash t plain
begin_plain (from start end q f) plain z = omega arith

-- The clause has the variables of its entries.
pub from_has : {ls : List ℤ} {k start end : ℕ} → StandsFrom ls k start end → (v : ℕ) → HasVariable ls k v ↔ Has ls start end v
from_has {ls} {k} {start} {end} f v =
    let plain : always_true (take (end - start) (drop start ls)) ≡ false = subst (λ c. always_true c ≡ false) (sym f.is) f.not-true in
    let both = connects_all ls start end f.next.from (omega (arith, f.closed)) plain v in
    subst (λ c. Memᴰ v (map variable_of c) ↔ Has ls start end v) f.is (subst (λ vs. Memᴰ v vs ↔ Has ls start end v) (connected_all (take (end - start) (drop start ls)) plain) both)

-- Where no entry of a path is over a count, each is below it.
pub not_over : {count : ℕ} (path : List ℕ) → (NumberOver count path → ⊥) → (i : ℕ) → i < length path → at path i < count
not_over {count} path none i l = by_cases (dec_lt (at path i) count) (λ below. below) (λ over. absurd (none (i, l, omega arith)))

-- The numbers of a path are small, and each has the row of the clause that it names.
pub known_small : {ls : List ℤ} {begins path : List ℕ} → Known ls begins path → Small path
known_small known i l = let below = known.below i l in let few = known.all.few in omega arith

module _ {ls : List ℤ} {begins path : List ℕ} (known : Known ls begins path) {i : ℕ} (l : i < length path) where
  pub known_within : at path i < length begins
  known_within = let below = known.below i l in let room = known.all.room in omega arith

  pub known_begin : Begin ls (at path i) (get_or begins (at path i) 0)
  known_begin = known.all.rows (at path i) (known.below i l)
