-- The numbers of the copies, stored from the last member to the first.
use Prim.Native.Nat.{ℕ, suc, ◌+◌, ◌≤◌}
use mathlib.Core.Path.{◌≡◌, sym, ap, ◌∙◌}
use mathlib.Core.Bool.{cond}
use mathlib.Core.List.{List, [], ◌∷◌, ◌++◌, append_assoc}
use native.Mathlib.Decide.{ℕ_discrete}
use native.Mathlib.Omega.{arith}
use borrow.Author.Tests.{eq-eqb, ne_eqb}
use lib.Dec.{eqb}
use lib.ListN.{length, get_or, set, length-set, length-append}
use lib.Seq.{get_or-append_seam, get_or-set_same, get_or-set_other}
use Rattle.std.proofs.Common.{append-nil}
use Rattle.terms.specs.Limits.{most_variables}
use Rattle.terms.specs.InnerLimits.{variable_rows}
use Rattle.expand_clauses.specs.InnerCopies.{copy_from}
use Rattle.expand_clauses.specs.InnerCopied.{tabled}

-- The members behind those that are left have their numbers.
pub record Numbers (n : ℕ) (members left copies : List ℕ) : Type 0 where
  pub done : List ℕ
  pub all : members ≡ left ++ done
  pub size : length copies ≡ variable_rows
  pub rows : (v : ℕ) → tabled copies v ≡ copy_from (suc n + length left) done v

pub numbers_none : (n : ℕ) {members copies : List ℕ} → length copies ≡ variable_rows → ((v : ℕ) → tabled copies v ≡ 0) → Numbers n members members copies
unfolding copy_from
numbers_none n {members} size blank = record { done = []; all = sym (append-nil members); size = size; rows = blank }

-- One member more, in front: its number is the first.
pub numbers_more : {n : ℕ} {members left left' copies : List ℕ} {k : ℕ} (member : ℕ) → Numbers n members left copies
    → ((i : ℕ) → get_or members i 0 ≤ most_variables) → left ≡ left' ++ member ∷ [] → k ≡ length left' → Numbers n members left' (set copies member (n + k + 1))
unfolding copy_from
numbers_more {n} {members} {left} {left'} {copies} {k} member s low last place =
    record {
      done = member ∷ s.done;
      all = all;
      size = length-set copies member (n + k + 1) ∙ s.size;
      rows = λ v. go v (ℕ_discrete v member);
    }
  where
    all : members ≡ left' ++ member ∷ s.done
    all = s.all ∙ ap (λ front. front ++ s.done) last ∙ append_assoc left' (member ∷ []) s.done

    here : member ≡ get_or members (length left') 0
    here = sym (ap (λ ms. get_or ms (length left') 0) all ∙ get_or-append_seam left' member s.done 0)

    go : (v : ℕ) → Dec (v ≡ member)
        → tabled (set copies member (n + k + 1)) v ≡ cond (eqb member v) (suc n + length left') (copy_from (suc (suc n + length left')) s.done v)
    go v (yes q) =
        let number : n + k + 1 ≡ suc n + length left' = omega (arith, place) in
        ap (tabled (set copies member (n + k + 1))) q ∙ get_or-set_same copies member (n + k + 1) 0 (omega (arith, s.size, here, low (length left'))) ∙ number
        ∙ sym (ap (λ b. cond b (suc n + length left') (copy_from (suc (suc n + length left')) s.done v)) (eq-eqb member v (sym q)))
    go v (no other) =
        let next : suc n + length left ≡ suc (suc n + length left') = omega (arith, ap length last, length-append left' (member ∷ [])) in
        get_or-set_other copies member v (n + k + 1) 0 other ∙ s.rows v ∙ ap (λ (j : ℕ). copy_from j s.done v) next
        ∙ sym (ap (λ b. cond b (suc n + length left') (copy_from (suc (suc n + length left')) s.done v)) (ne_eqb member v (λ q. other (sym q))))
