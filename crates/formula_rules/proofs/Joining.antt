-- What joining blocks is (Joins): the joined blocks have it, and are the one list that does.
use Prim.Native.Nat.{ℕ}
use mathlib.Core.Path.{◌≡◌, refl, sym, ap, ap₂, subst, ◌∙◌}
use mathlib.Core.Bool.{Bool, cond}
use mathlib.Core.List.{List, [], ◌∷◌, ◌++◌, map, map-append, append_assoc}
use mathlib.Core.Logic.{◌≢◌}
use native.Mathlib.Omega.{arith}
use borrow.Author.Tests.{eq-eqb, eqb-true}
use lib.Dec.{eqb}
use lib.ListN.{length, drop}
use Rattle.terms.proofs.Common.{clash, by_test}
use Rattle.formula.specs.Meaning.{mark_of}
use Rattle.formula_rules.specs.Joined.{in_front, joined_blocks, NoneEmpty, Apart, marked, Joins}

-- A block in front of blocks that are joined, by cases: dropped, joined with the first, or in front of it.
module _ (mark v : ℕ) (variables : List ℕ) where
  abbrev own : List ℕ
  own = mark ∷ v ∷ variables

  pub front_cases : (P : List (List ℕ) → Type 0) (next : List ℕ) (later : List (List ℕ))
      → (mark ≡ mark_of next → P ((mark ∷ v ∷ (variables ++ drop 1 next)) ∷ later)) → (mark ≢ mark_of next → P (own ∷ next ∷ later))
      → P (in_front own (next ∷ later))
  unfolding in_front
  front_cases P next later joined apart =
      by_test (eqb mark (mark_of next))
      (λ t. subst (λ (b : Bool). P (cond b ((mark ∷ v ∷ (variables ++ drop 1 next)) ∷ later) (own ∷ next ∷ later))) (sym t)
      (joined (eqb-true mark (mark_of next) t)))
      (λ f. subst (λ (b : Bool). P (cond b ((mark ∷ v ∷ (variables ++ drop 1 next)) ∷ later) (own ∷ next ∷ later))) (sym f)
      (apart (λ q. clash (eq-eqb mark (mark_of next) q) f)))

  front_full : (js : List (List ℕ)) → NoneEmpty js → NoneEmpty (in_front own js)
  unfolding in_front
  front_full [] full = (omega arith, tt)
  front_full (next ∷ later) full = front_cases NoneEmpty next later (λ _. (omega arith, full.1)) (λ _. (omega arith, full))

  front_apart : (js : List (List ℕ)) → Apart js → Apart (in_front own js)
  unfolding in_front
  front_apart [] apart = tt
  front_apart (next ∷ later) apart = front_cases Apart next later (joined later apart) (λ other. (other, apart))
    where
      joined : (later : List (List ℕ)) → Apart (next ∷ later) → mark ≡ mark_of next → Apart ((mark ∷ v ∷ (variables ++ drop 1 next)) ∷ later)
      joined [] apart same = tt
      joined (block ∷ more) apart same = (λ q. apart.0 (sym same ∙ q), apart.1)

  front_marked : (js : List (List ℕ)) → NoneEmpty js → marked (in_front own js) ≡ marked (own ∷ js)
  unfolding in_front marked
  front_marked [] full = refl
  front_marked ([] ∷ later) full = absurd (let l = full.0 in omega arith)
  front_marked ((other ∷ more) ∷ later) full = front_cases (λ js. marked js ≡ marked (own ∷ (other ∷ more) ∷ later)) (other ∷ more) later joined (λ _. refl)
    where
      joined : mark ≡ other → marked ((mark ∷ v ∷ (variables ++ more)) ∷ later) ≡ marked (own ∷ (other ∷ more) ∷ later)
      joined same =
          ap (λ (l : List (ℕ × ℕ)). (mark, v) ∷ (l ++ marked later)) (map-append (λ w. (mark, w)) variables more)
          ∙ ap (λ (l : List (ℕ × ℕ)). (mark, v) ∷ l) (append_assoc (map (λ w. (mark, w)) variables) (map (λ w. (mark, w)) more) (marked later))
          ∙ ap (λ (m : ℕ). (mark, v) ∷ (map (λ w. (mark, w)) variables ++ (map (λ w. (m, w)) more ++ marked later))) same

pub joined_joins : (bs : List (List ℕ)) → Joins bs (joined_blocks bs)
unfolding joined_blocks in_front marked
joined_joins [] = record { full = tt; apart = tt; same = refl }
joined_joins ([] ∷ later) = let j = joined_joins later in record { full = j.full; apart = j.apart; same = j.same }
joined_joins ((mark ∷ []) ∷ later) = let j = joined_joins later in record { full = j.full; apart = j.apart; same = j.same }
joined_joins ((mark ∷ v ∷ variables) ∷ later) =
    let j = joined_joins later in
    record {
      full = front_full mark v variables (joined_blocks later) j.full;
      apart = front_apart mark v variables (joined_blocks later) j.apart;
      same = front_marked mark v variables (joined_blocks later) j.full ∙ ap (λ (l : List (ℕ × ℕ)). map (λ w. (mark, w)) (v ∷ variables) ++ l) j.same;
    }

-- The mark and the variable in front of such a list, and what follows.
front_mark : List (ℕ × ℕ) → ℕ
front_mark [] = 0
front_mark (pair ∷ more) = pair.0

front_variable : List (ℕ × ℕ) → ℕ
front_variable [] = 0
front_variable (pair ∷ more) = pair.1

-- Behind a block, blocks that are apart from it do not go on with its mark.
no_more : (mark : ℕ) (variables : List ℕ) (js : List (List ℕ)) → NoneEmpty js → Apart ((mark ∷ variables) ∷ js) → (w : ℕ) (more : List (ℕ × ℕ))
    → marked js ≡ (mark, w) ∷ more → ⊥
unfolding marked front_mark
no_more mark variables [] full apart w more q = let l = ap length q in omega arith
no_more mark variables ([] ∷ js) full apart w more q = let l = full.0 in omega arith
no_more mark variables ((other ∷ []) ∷ js) full apart w more q = let l = full.0 in omega arith
no_more mark variables ((other ∷ v ∷ others) ∷ js) full apart w more q = apart.0 (sym (ap front_mark q))

-- So a block ends where the mark changes.
same_block : (mark : ℕ) (vs ws : List ℕ) (mine other : List ℕ) (js ks : List (List ℕ)) → NoneEmpty js → Apart ((mark ∷ mine) ∷ js) → NoneEmpty ks
    → Apart ((mark ∷ other) ∷ ks) → map (λ v. (mark, v)) vs ++ marked js ≡ map (λ v. (mark, v)) ws ++ marked ks → (vs ≡ ws) × (marked js ≡ marked ks)
unfolding front_variable
same_block mark [] [] mine other js ks full apart full' apart' q = (refl, q)
same_block mark [] (w ∷ ws) mine other js ks full apart full' apart' q =
    absurd (no_more mark mine js full apart w (map (λ v. (mark, v)) ws ++ marked ks) q)
same_block mark (v ∷ vs) [] mine other js ks full apart full' apart' q =
    absurd (no_more mark other ks full' apart' v (map (λ v. (mark, v)) vs ++ marked js) (sym q))
same_block mark (v ∷ vs) (w ∷ ws) mine other js ks full apart full' apart' q =
    let (more, rest) = same_block mark vs ws mine other js ks full apart full' apart' (ap (drop 1) q) in
    (ap₂ (λ (x : ℕ) (l : List ℕ). x ∷ l) (ap front_variable q) more, rest)

later_apart : (block : List ℕ) (js : List (List ℕ)) → Apart (block ∷ js) → Apart js
later_apart block [] apart = tt
later_apart block (next ∷ js) apart = apart.1

-- Two such lists with the same variables under the same marks are one.
one_list : (js ks : List (List ℕ)) → NoneEmpty js → Apart js → NoneEmpty ks → Apart ks → marked js ≡ marked ks → js ≡ ks
unfolding marked front_mark front_variable
one_list [] [] full apart full' apart' q = refl
one_list [] ([] ∷ ks) full apart full' apart' q = absurd (let l = full'.0 in omega arith)
one_list [] ((other ∷ []) ∷ ks) full apart full' apart' q = absurd (let l = full'.0 in omega arith)
one_list [] ((other ∷ w ∷ ws) ∷ ks) full apart full' apart' q = absurd (let l = ap length q in omega arith)
one_list ([] ∷ js) ks full apart full' apart' q = absurd (let l = full.0 in omega arith)
one_list ((mark ∷ []) ∷ js) ks full apart full' apart' q = absurd (let l = full.0 in omega arith)
one_list ((mark ∷ v ∷ vs) ∷ js) [] full apart full' apart' q = absurd (let l = ap length q in omega arith)
one_list ((mark ∷ v ∷ vs) ∷ js) ([] ∷ ks) full apart full' apart' q = absurd (let l = full'.0 in omega arith)
one_list ((mark ∷ v ∷ vs) ∷ js) ((other ∷ []) ∷ ks) full apart full' apart' q = absurd (let l = full'.0 in omega arith)
one_list ((mark ∷ v ∷ vs) ∷ js) ((other ∷ w ∷ ws) ∷ ks) full apart full' apart' q =
    let mark_is : other ≡ mark = sym (ap front_mark q) in
    let same = subst (λ (m : ℕ). map (λ x. (mark, x)) vs ++ marked js ≡ map (λ x. (m, x)) ws ++ marked ks) mark_is (ap (drop 1) q) in
    let behind = subst (λ (m : ℕ). Apart ((m ∷ w ∷ ws) ∷ ks)) mark_is apart' in
    let (more, rest) = same_block mark vs ws (v ∷ vs) (w ∷ ws) js ks full.1 apart full'.1 behind same in
    let own : mark ∷ v ∷ vs ≡ other ∷ w ∷ ws = ap₂ (λ (m : ℕ) (l : List ℕ). m ∷ l) (sym mark_is)
    (ap₂ (λ (x : ℕ) (l : List ℕ). x ∷ l) (ap front_variable q) more) in
    ap₂ (λ (b : List ℕ) (l : List (List ℕ)). b ∷ l) own
    (one_list js ks full.1 (later_apart (mark ∷ v ∷ vs) js apart) full'.1 (later_apart (other ∷ w ∷ ws) ks apart') rest)

pub joins_one : (bs js : List (List ℕ)) → Joins bs js → js ≡ joined_blocks bs
joins_one bs js j =
    let own = joined_joins bs in one_list js (joined_blocks bs) j.full j.apart own.full own.apart (j.same ∙ sym own.same)
