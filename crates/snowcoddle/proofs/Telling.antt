-- How the library's answers are told: by what an answer says, laid out in cells.
use Rattle.std.specs.Prelude.{Ok, Err}
use Rattle.terms.specs.Says.{Answer, Verdict, fault_number}
use Rattle.terms.specs.declared.Point.{Point}
use Rattle.terms.specs.declared.Refusal.{Refusal}
use Prim.Native.Nat.{ℕ}
use mathlib.Core.Path.{◌≡◌, refl, sym, ap, ◌∙◌, subst}
use mathlib.Core.List.{List}
use Rattle.terms.specs.Refusals.{Causes, FirstOf, NoneOf, Judged}
use Rattle.terms.specs.declared.Scheme.{Scheme}
use Rattle.terms.specs.Answers.{Settles, Answered, AnsweredNumber, InFront, Filling}
use Rattle.c_answers.specs.InnerCells.{Said, gives, refuses, number_of, Fits, Any, Laid, given, placed, said, entry_said}
use Rattle.snowcoddle.specs.Told.{Told, accepted, refused}
use Rattle.snowcoddle.proofs.Places.{Small}

module _ (order : List Causes) {got kept : Type 0} {verdict : Verdict} (place : ℕ) where
  -- a verdict that accepts, with what C has got
  pub tell_accepted : verdict ≡ Ok tt → Judged order verdict → got → Told order got kept 0 place place
  tell_accepted q judged got' = accepted (subst (Judged order) q judged) got' refl refl

  -- a verdict that refuses, with what is kept
  pub tell_refused : {r : Refusal} → verdict ≡ Err r → Judged order verdict → kept → Told order got kept (fault_number r.0) place r.1
  tell_refused q judged keeps = refused (subst (Judged order) q judged) keeps

module _ {C : Type 0} (order : List Causes) (G : C → Type 0) (K : Type 0) where
  -- it fits its cells, where the places of all causes do and G bounds what is given
  pub fits_known : (B : C → Type 0) (told : Said C) → Small order → ((parts : C) → NoneOf order → G parts → B parts)
      → Settles order G K told → Fits B told
  fits_known B (gives parts) small bounds known = bounds parts known.0 known.1
  fits_known B (refuses number at) small bounds known = small number at known.0

  -- and laid out it is what C is told
  pub tell_known : {told : Said C} {kept : Type 0} {cells cells' : C} {place place' returned : ℕ} → Laid told cells cells' place place' returned
      → Settles order G K told → (cells' ≡ cells → K → kept) → Told order (G cells') kept returned place place'
  tell_known (given q c r p) known keeps = let k = subst (Settles order G K) q known in accepted k.0 (subst G (sym c) k.1) (r ∙ ap number_of q) p
  tell_known {place' = place'} (placed {number = number} q c r p) known keeps =
      let k = subst (Settles order G K) q known in
      refused (subst (λ v. FirstOf order v place') (sym (r ∙ ap number_of q)) (subst (FirstOf order number) (sym p) k.0)) (keeps c k.1)

-- A verdict alone.
module _ (order : List Causes) where
  pub fits_verdict : (verdict : Verdict) → Small order → Judged order verdict → Fits Any (said verdict)
  fits_verdict (Ok _) small judged = tt
  fits_verdict (Err refusal) small judged = small (fault_number refusal.0) refusal.1 judged

  verdict_known : (verdict : Verdict) → Judged order verdict → Settles order Any (Unit {0}) (said verdict)
  verdict_known (Ok _) judged = (judged, tt)
  verdict_known (Err refusal) judged = (judged, tt)

  pub tell_verdict : (verdict : Verdict) {place place' returned : ℕ} → Laid (said verdict) tt tt place place' returned
      → Judged order verdict → Told order (Unit {0}) (Unit {0}) returned place place'
  tell_verdict verdict laid judged = tell_known order Any (Unit {0}) laid (verdict_known verdict judged) (λ _ _. tt)

-- A table filled with a list: with a count, the list is written; refused, the table and the count are kept.
module _ (order : List Causes) (L : List ℕ → Type 0) (out out' : List ℕ) where
  pub fits_filling : (answer : Answer ℕ) → Small order → Filling order L out out' answer → Fits Any (said answer)
  fits_filling answer small filling =
      fits_known order (InFront L out out') (out' ≡ out) Any (said answer) small (λ _ _ _. tt) filling

  pub tell_filling : (answer : Answer ℕ) {count count' place place' returned : ℕ} → Laid (said answer) count count' place place' returned
      → Filling order L out out' answer
      → Told order (InFront L out out' count') ((count' ≡ count) × (out' ≡ out)) returned place place'
  tell_filling answer laid filling = tell_known order (InFront L out out') (out' ≡ out) laid filling (λ q r. (q, r))

-- Where order and list go by a scheme, what is told by the scheme that was found is told by the one that is asked for.
pub tell_filling_by : (order : Scheme → List Causes) (L : Scheme → List ℕ → Type 0) (out out' : List ℕ) {found asked : Scheme} → found ≡ asked
    → (answer : Answer ℕ) {count count' place place' returned : ℕ} → Laid (said answer) count count' place place' returned
    → Filling (order found) (L found) out out' answer
    → Told (order asked) (InFront (L asked) out out' count') ((count' ≡ count) × (out' ≡ out)) returned place place'
tell_filling_by order L out out' {found} q answer {count} {count'} {place} {place'} {returned} laid filling =
    subst (λ (s : Scheme). Told (order s) (InFront (L s) out out' count') ((count' ≡ count) × (out' ≡ out)) returned place place') q
    (tell_filling (order found) (L found) out out' answer laid filling)

-- A number: given in its cell, of which P holds.
module _ (order : List Causes) (P : ℕ → Type 0) where
  pub fits_numbered : (answer : Answer ℕ) → Small order → AnsweredNumber order P answer → Fits Any (said answer)
  fits_numbered answer small known = fits_known order P (Unit {0}) Any (said answer) small (λ _ _ _. tt) known

  pub tell_numbered : (answer : Answer ℕ) {cell cell' place place' returned : ℕ} → Laid (said answer) cell cell' place place' returned
      → AnsweredNumber order P answer → Told order (P cell') (cell' ≡ cell) returned place place'
  tell_numbered answer laid known = tell_known order P (Unit {0}) laid known (λ r _. r)

pub tell_numbered_by : (order : List Causes) (P : Scheme → ℕ → Type 0) {found asked : Scheme} → found ≡ asked
    → (answer : Answer ℕ) {cell cell' place place' returned : ℕ} → Laid (said answer) cell cell' place place' returned
    → AnsweredNumber order (P found) answer → Told order (P asked cell') (cell' ≡ cell) returned place place'
tell_numbered_by order P {found} q answer {cell} {cell'} {place} {place'} {returned} laid known =
    subst (λ (s : Scheme). Told order (P s cell') (cell' ≡ cell) returned place place') q (tell_numbered order (P found) answer laid known)

-- An entry point and its rises, of which P holds.
module _ (order : List Causes) (P : ℕ → ℕ → Type 0) where
  abbrev Both : ℕ × ℕ → Type 0
  Both cells = P cells.0 cells.1

  pub fits_entry : (answer : Answer Point) → Small order → Answered order P answer → Fits Any (entry_said answer)
  fits_entry answer small known = fits_known order Both (Unit {0}) Any (entry_said answer) small (λ _ _ _. tt) known

  pub tell_entry : (answer : Answer Point) {entry rises entry' rises' place place' returned : ℕ}
      → Laid (entry_said answer) (entry, rises) (entry', rises') place place' returned → Answered order P answer
      → Told order (P entry' rises') ((entry' ≡ entry) × (rises' ≡ rises)) returned place place'
  tell_entry answer laid known =
      tell_known order Both (Unit {0}) laid known
      (λ q _. (ap (λ (cells : ℕ × ℕ). cells.0) q, ap (λ (cells : ℕ × ℕ). cells.1) q))
