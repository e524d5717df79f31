-- Choices made entry by entry: the best clause to begin with, the nearest clause of each variable, and the lowest of those of a clause's variables.
use Prim.Native.Nat.{ℕ, suc, ◌+◌, ◌<◌}
use mathlib.Core.Path.{◌≡◌, sym, ap, subst, ◌∙◌}
use mathlib.Core.List.{List}
use mathlib.Core.Logic.{◌≢◌, ◌⊎◌, inl, inr, ⊎_elim, by_cases}
use native.Mathlib.Decide.{ℕ_discrete, dec_lt}
use native.Mathlib.Omega.{arith}
use lib.IntN.{ℤ}
use lib.ListN.{length, set, length-set}
use lib.Seq.{get_or-set_same, get_or-set_other}
use Rattle.formula.specs.Tables.{at, literal_at}
use Rattle.path_explain.specs.InnerTies.{owner_at}
use Rattle.path_explain.specs.InnerWays.{Before, NoLater, Leads, Best, Nearer, IsNearer, Nearest, Lowest, Lower}

-- What an entry more adds to what stands before it.
module _ {R : ℤ → Type 0} {ls : List ℤ} {next : List ℕ} (i k : ℕ) where
  pub before_longer : Before R ls next i k → Before R ls next (i + 1) k
  before_longer b = record { place = b.place; before = let l = b.before in omega arith; owner = b.owner; is = b.is }

  pub before_here : owner_at next i ≡ suc k → R (literal_at ls i) → Before R ls next (i + 1) k
  before_here q r = record { place = i; before = omega arith; owner = q; is = r }

  pub before_cases : Before R ls next (i + 1) k → Before R ls next i k ⊎ (R (literal_at ls i) × (owner_at next i ≡ suc k))
  before_cases b =
      by_cases (ℕ_discrete b.place i) (λ e. inr (subst (λ p. R (literal_at ls p)) e b.is, ap (owner_at next) (sym e) ∙ b.owner))
      (λ other. inl (record { place = b.place; before = let l = b.before in omega arith; owner = b.owner; is = b.is }))

-- What leads a clause leads all that come after it.
leads_on : (dists : List ℕ) (r b k : ℕ) → Leads dists r b → NoLater dists b k → Leads dists r k
leads_on dists r b k (a, q, first) then = (
  a,
  q,
  ⊎_elim (λ l. inl (⊎_elim (λ m. omega arith) (λ e. let d = e.0 in omega arith) then))
      (λ s. ⊎_elim (λ m. inl (let d = s.0 in omega arith)) (λ e. inr (s.0 ∙ e.0, let d = s.1 in let f = e.1 in omega arith)) then) first,
)

module _ {Q Q' : ℕ → Type 0} {dists : List ℕ} {best : ℕ} (b : Best Q dists best) where
  pub best_same : ((k : ℕ) → Q k → Q' k) → ((k : ℕ) → Q' k → Q k) → Best Q' dists best
  best_same there back =
      record {
        found = ⊎_elim inl (λ f. let (k, q, h, some) = f in inr (k, q, there k h, some)) b.found;
        low = λ k h. b.low k (back k h);
      }

  pub best_more : (owner r : ℕ) → ((k : ℕ) → Q k → Q' k) → ((k : ℕ) → owner ≡ suc k → Q' k) → ((k : ℕ) → Q' k → Q k ⊎ (owner ≡ suc k))
      → Nearer dists best owner r → Best Q' dists r
  best_more owner r there new back n =
      record {
        found =
            ⊎_elim (λ same. ⊎_elim (λ z. inl (same ∙ z)) (λ f. let (k, q, h, some) = f in inr (k, same ∙ q, there k h, some)) b.found)
            (λ own. let (q, rest) = own in let (k, p, some) = rest in inr (k, q ∙ p, new k p, some)) n.is;
        low = λ k h some. ⊎_elim (λ old. let (a, q, later) = b.low k old some in leads_on dists r a k (n.one a q) later) (λ own. n.other k own some) (back k h);
      }

-- The nearest clause of a variable: that of this entry, or what was known.
module _ {Q Q' : ℕ → ℕ → Type 0} {dists rows nearest : List ℕ} (near : Nearest Q dists rows nearest) (v owner : ℕ)
    (there : (w k : ℕ) → Q w k → Q' w k) (new : (k : ℕ) → owner ≡ suc k → Q' v k) (back : (w k : ℕ) → Q' w k → Q w k ⊎ ((w ≡ v) × (owner ≡ suc k))) where
  pub nearest_more : v < length nearest → IsNearer dists owner (at rows v) (at nearest v) → Nearest Q' dists rows (set nearest v owner)
  nearest_more less is =
      record {
        size = length-set nearest v owner ∙ near.size;
        sound = λ w k q.
            by_cases (ℕ_discrete w v)
            (λ e. let own : owner ≡ suc k = sym (ap (at (set nearest v owner)) e ∙ here) ∙ q in
            let same : is.clause ≡ k = (let a = is.owns in omega arith) in
            (subst (λ u. Q' u k) (sym e) (new k own), subst (λ j. at dists j ≢ 0) same is.some, ap (at rows) e ∙ is.row_is ∙ ap (λ j. suc (at dists j)) same))
            (λ other. let (h, some, row) = near.sound w k (sym (get_or-set_other nearest v w owner 0 other) ∙ q) in (there w k h, some, row));
        low = λ w k h some row.
            by_cases (ℕ_discrete w v)
            (λ e. let now-is = ap (at (set nearest v owner)) e ∙ here in
            let owns = is.owns in (
              omega arith,
              ⊎_elim (λ old. let (s, l) = near.low w k old some row in let was = ap (at nearest) e in ⊎_elim (λ z. absurd (omega arith)) (λ lower. omega arith) is.lower)
                  (λ own. let p = own.1 in omega arith) (back w k h),
            ))
            (λ other. let kept = get_or-set_other nearest v w owner 0 other in
            ⊎_elim (λ old. let (s, l) = near.low w k old some row in (omega arith, omega arith)) (λ own. absurd (other own.0)) (back w k h));
      }
    where
      here : at (set nearest v owner) v ≡ owner
      here = get_or-set_same nearest v owner 0 less

  pub nearest_past : (IsNearer dists owner (at rows v) (at nearest v) → ⊥) → Nearest Q' dists rows nearest
  nearest_past not' =
      record {
        size = near.size;
        sound = λ w k q. let (h, some, row) = near.sound w k q in (there w k h, some, row);
        low = λ w k h some row.
            ⊎_elim (λ old. near.low w k old some row)
            (λ own. let (e, p) = own in
            let was = ap (at nearest) e in
            by_cases (ℕ_discrete (at nearest v) 0)
            (λ z. absurd (not' (record { clause = k; owns = p; some = some; row_is = ap (at rows) (sym e) ∙ row; lower = inl z })))
            (λ set'. by_cases (dec_lt owner (at nearest v))
            (λ l. absurd (not' (record { clause = k; owns = p; some = some; row_is = ap (at rows) (sym e) ∙ row; lower = inr l })))
            (λ l. (omega arith, omega arith))))
            (back w k h);
      }

pub nearest_same : {Q Q' : ℕ → ℕ → Type 0} {dists rows nearest : List ℕ} → ((v k : ℕ) → Q v k → Q' v k) → ((v k : ℕ) → Q' v k → Q v k)
    → Nearest Q dists rows nearest → Nearest Q' dists rows nearest
nearest_same there back near =
    record {
      size = near.size;
      sound = λ v k q. let (h, some, row) = near.sound v k q in (there v k h, some, row);
      low = λ v k h. near.low v k (back v k h);
    }

-- The lowest owner: one variable more.
module _ {Q Q' : ℕ → Type 0} {nearest : List ℕ} {best : ℕ} (l : Lowest Q nearest best) (there : (w : ℕ) → Q w → Q' w) where
  pub lowest_same : ((w : ℕ) → Q' w → Q w) → Lowest Q' nearest best
  lowest_same back = record { found = ⊎_elim inl (λ f. inr (f.0, there f.0 f.1, f.2)) l.found; low = λ w q. l.low w (back w q) }

  pub lowest_more : (v r : ℕ) → Q' v → ((w : ℕ) → Q' w → Q w ⊎ (w ≡ v)) → Lower best (at nearest v) r → Lowest Q' nearest r
  lowest_more v r own back lower =
      record {
        found =
            ⊎_elim (λ same. ⊎_elim (λ z. inl (same ∙ z)) (λ f. inr (f.0, there f.0 f.1, f.2 ∙ sym same)) l.found) (λ q. inr (v, own, sym q)) lower.is;
        low = λ w q some.
            ⊎_elim (λ old. let (a, b) = l.low w old some in let (c, d) = lower.one a in (c, omega arith))
            (λ e. let was = ap (at nearest) e in let (c, d) = lower.other (omega arith) in (c, omega arith)) (back w q);
      }
