-- The joined prefix written from the left: what stands in the table so far, and how one entry more goes on.
use Prim.Native.Nat.{ℕ, zero, suc, ◌≤◌, ◌<◌, ◌+◌}
use mathlib.Core.Path.{◌≡◌, refl, sym, ap, ◌∙◌, subst}
use mathlib.Core.Bool.{Bool, true, false, cond, not, ◌&&◌}
use mathlib.Core.List.{List, [], ◌∷◌, ◌++◌, append_assoc, append-nil}
use mathlib.Core.Logic.{◌≢◌}
use native.Mathlib.Numerals.{add-one}
use native.Mathlib.Omega.{arith}
use borrow.Author.Tests.{eq-eqb, ne_eqb}
use lib.Dec.{eqb}
use lib.ListN.{length, take, drop, set, length-set, length-append, drop_of_length-le}
use lib.Seq.{drop-cons, take-suc-set, length-take-le}
use Rattle.terms.specs.Refusals.{None}
use Rattle.terms.proofs.Common.{clash}
use Rattle.formula.specs.Tables.{at, opens}
use Rattle.formula_rules.specs.Joined.{joined_prefix}
use Rattle.formula_rules.specs.Rules.{JoinedCause}
use Rattle.formula_rules.specs.InnerScan.{begins_after}
use Rattle.formula_rules.specs.InnerWriting.{closing, Put}
use Rattle.formula_rules.proofs.Scanned.{mark_some}
use Rattle.formula_rules.proofs.Passing.{starts_empty, mark_is, passes}
use Rattle.formula_rules.proofs.Rest.{rest, rest_joined}

-- closing a block: nothing where there is none, and else a 0 behind what stands
pub put_nothing : (out : List ℕ) (count last : ℕ) → last ≡ 0 → Put (closing last) out out count count
unfolding closing
put_nothing out count zero q =
    record { size = refl; end = omega arith; written = sym (append-nil (take count out)) }
put_nothing out count (suc last) q = absurd (omega arith)

pub put_zero : (out : List ℕ) (count last : ℕ) → last ≢ 0 → count < length out → Put (closing last) out (set out count 0) count (count + 1)
unfolding closing
put_zero out count zero some l = absurd (some refl)
put_zero out count (suc last) some l =
    record { size = length-set out count 0; end = refl; written = ap (λ (k : ℕ). take k (set out count 0)) (add-one count) ∙ take-suc-set out count 0 l }

-- What is written at entry i, with what is still to be written, is the joined prefix; the last block is closed when the next one begins.
pub record Writing (es : List ℕ) (most i : ℕ) (opening : Bool) (last count : ℕ) (out : List ℕ) : Type 0 where
  pub within : i ≤ length es
  pub size : length out ≡ most
  pub wide : length (rest true 0 es) ≤ most
  pub fits : count ≤ most
  pub opening_is : opening ≡ opens es i
  pub room : count ≤ i
  pub pending : opening ≡ true → last ≢ 0 → count < i
  pub written : rest true 0 es ≡ take count out ++ rest opening last (drop i es)

pub write_none : {n : ℕ} {es : List ℕ} → None (JoinedCause n es) → (out : List ℕ) → length (joined_prefix es) ≤ length out
    → Writing es (length out) 0 true 0 0 out
write_none none out wide =
    let joined = ap length (rest_joined (passes none)) in
    record {
      within = omega arith;
      size = refl;
      wide = omega arith;
      fits = omega arith;
      opening_is = refl;
      room = omega arith;
      pending = λ _ some. absurd (some refl);
      written = refl;
    }

-- so there is room for what is still to be written
left : {es : List ℕ} {most i : ℕ} {opening : Bool} {last count : ℕ} {out : List ℕ} → Writing es most i opening last count out
    → count + length (rest opening last (drop i es)) ≤ most
left {es} {most} {i} {opening} {last} {count} {out} s =
    let fits = s.fits in
    let size = s.size in
    let wide = s.wide in
    let all = ap length s.written ∙ length-append (take count out) (rest opening last (drop i es)) in
    let front = length-take-le count out (omega arith) in
    omega arith

module _ {n : ℕ} {es : List ℕ} {most i : ℕ} {opening : Bool} {last count : ℕ} {out : List ℕ} (none : None (JoinedCause n es))
    (s : Writing es most i opening last count out) (more : i < length es) where
  -- what is still to be written, by what the entry is
  here : rest opening last (drop i es) ≡ rest opening last (at es i ∷ drop (suc i) es)
  here = ap (rest opening last) (drop-cons es i 0 more)

  module _ (open' : opening ≡ true) where
    mark_there : at es i ≢ 0
    mark_there = mark_some (at es i) (mark_is none i more (sym s.opening_is ∙ open'))

    at_mark : (new : Bool) → new ≡ begins_after es i last
        → rest opening last (drop i es) ≡ cond new (closing last ++ (at es i ∷ rest false (at es i) (drop (suc i) es)))
        (rest false last (drop (suc i) es))
    unfolding rest
    at_mark new is =
        here ∙ ap (λ (o : Bool). rest o last (at es i ∷ drop (suc i) es)) open'
        ∙ ap (λ b. cond b (closing last ++ (at es i ∷ rest false (at es i) (drop (suc i) es))) (rest false last (drop (suc i) es)))
        (ap (λ b. not b && not (eqb (at es i) last)) (starts_empty es i) ∙ sym is)

    pub mark_room : true ≡ begins_after es i last → count + length (closing last) < most
    mark_room is =
        let there = ap length (at_mark true is) ∙ length-append (closing last) (at es i ∷ rest false (at es i) (drop (suc i) es)) in
        let all = left s in
        omega arith

    -- A mark that begins a block: the block before is closed, and the mark stands behind.
    module _ {out' : List ℕ} {closed : ℕ} (put : Put (closing last) out out' count closed) where
      pub closed_room : closed ≤ i
      unfolding closing
      closed_room = go last (s.pending open') put.end
        where
          go : (l : ℕ) → (l ≢ 0 → count < i) → closed ≡ count + length (closing l) → closed ≤ i
          go zero before e = let r = s.room in omega arith
          go (suc l) before e = let r = before (λ z. omega arith) in omega arith

      pub write_mark : true ≡ begins_after es i last → Writing es most (i + 1) false (at es i) (closed + 1) (set out' closed (at es i))
      write_mark is =
          let low = closed_room in
          let same = put.size in
          let size = s.size in
          let end = put.end in
          let some = mark_room is in
          let fits : closed < length out' = omega arith in
          rw (add-one i, add-one closed)
          record {
            within = more;
            size = length-set out' closed (at es i) ∙ put.size ∙ s.size;
            wide = s.wide;
            fits = omega arith;
            opening_is = sym (ne_eqb (at es i) 0 mark_there);
            room = omega arith;
            pending = λ shut. absurd (clash shut refl);
            written = s.written ∙ ap (λ (r : List ℕ). take count out ++ r) (at_mark true is)
                ∙ sym (append_assoc (take count out) (closing last) (at es i ∷ rest false (at es i) (drop (suc i) es)))
                ∙ ap (λ (r : List ℕ). r ++ (at es i ∷ rest false (at es i) (drop (suc i) es))) (sym put.written)
                ∙ sym (append_assoc (take closed out') (at es i ∷ []) (rest false (at es i) (drop (suc i) es)))
                ∙ ap (λ (r : List ℕ). r ++ rest false (at es i) (drop (suc i) es)) (sym (take-suc-set out' closed (at es i) fits));
          }

    -- Any other mark is not written.
    pub write_no_mark : false ≡ begins_after es i last → Writing es most (i + 1) false last count out
    write_no_mark is =
        let r = s.room in
        rw (add-one i)
        record {
          within = more;
          size = s.size;
          wide = s.wide;
          fits = s.fits;
          opening_is = sym (ne_eqb (at es i) 0 mark_there);
          room = omega arith;
          pending = λ shut. absurd (clash shut refl);
          written = s.written ∙ ap (λ (r : List ℕ). take count out ++ r) (at_mark false is);
        }

  module _ (shut : opening ≡ false) where
    inside : (b : Bool) → eqb (at es i) 0 ≡ b
        → rest opening last (drop i es) ≡ cond b (rest true last (drop (suc i) es)) (at es i ∷ rest false last (drop (suc i) es))
    unfolding rest
    inside b q =
        here ∙ ap (λ (o : Bool). rest o last (at es i ∷ drop (suc i) es)) shut
        ∙ ap (λ b. cond b (rest true last (drop (suc i) es)) (at es i ∷ rest false last (drop (suc i) es))) q

    -- A 0 is written when the next block begins.
    pub write_close : at es i ≡ 0 → Writing es most (i + 1) true last count out
    write_close z =
        let r = s.room in
        rw (add-one i)
        record {
          within = more;
          size = s.size;
          wide = s.wide;
          fits = s.fits;
          opening_is = sym (eq-eqb (at es i) 0 z);
          room = omega arith;
          pending = λ _ _. omega arith;
          written = s.written ∙ ap (λ (r : List ℕ). take count out ++ r) (inside true (eq-eqb (at es i) 0 z));
        }

    pub name_room : at es i ≢ 0 → count < most
    name_room some =
        let there = ap length (inside false (ne_eqb (at es i) 0 some)) in
        let all = left s in
        omega arith

    stored : at es i ≢ 0 → Writing es most (i + 1) false last (count + 1) (set out count (at es i))
    stored some =
        let r = s.room in
        let size = s.size in
        let there = name_room some in
        let fits : count < length out = omega arith in
        rw (add-one i, add-one count)
        record {
          within = more;
          size = length-set out count (at es i) ∙ s.size;
          wide = s.wide;
          fits = there;
          opening_is = sym (ne_eqb (at es i) 0 some);
          room = omega arith;
          pending = λ shut. absurd (clash shut refl);
          written = s.written ∙ ap (λ (r : List ℕ). take count out ++ r) (inside false (ne_eqb (at es i) 0 some))
              ∙ sym (append_assoc (take count out) (at es i ∷ []) (rest false last (drop (suc i) es)))
              ∙ ap (λ (r : List ℕ). r ++ rest false last (drop (suc i) es)) (sym (take-suc-set out count (at es i) fits));
        }

    -- A variable stands behind all that is written.
    pub write_variable : at es i ≢ 0 → Writing es most (i + 1) opening last (count + 1) (set out count (at es i))
    write_variable some = subst (λ (o : Bool). Writing es most (i + 1) o last (count + 1) (set out count (at es i))) (sym shut) (stored some)

module _ {n : ℕ} {es : List ℕ} {most i : ℕ} {opening : Bool} {last count : ℕ} {out : List ℕ} (none : None (JoinedCause n es))
    (s : Writing es most i opening last count out) (done : length es ≤ i) where
  -- What is left is the 0 of the last block.
  only_close : rest opening last (drop i es) ≡ closing last
  unfolding rest
  only_close = ap (rest opening last) (drop_of_length-le es done)

  pub last_room : last ≢ 0 → count < length out
  unfolding closing
  last_room some = go last some (ap length only_close)
    where
      go : (l : ℕ) → l ≢ 0 → length (rest opening last (drop i es)) ≡ length (closing l) → count < length out
      go zero other e = absurd (other refl)
      go (suc l) other e = let all = left s in let size = s.size in omega arith

  -- Once the last block is closed, the joined prefix stands in front.
  pub written_all : {out' : List ℕ} {count' : ℕ} → Put (closing last) out out' count count' → (count' ≤ length out') × (take count' out' ≡ joined_prefix es)
  written_all {out'} {count'} put =
      let all = left s in
      let size = s.size in
      let same = put.size in
      let end = put.end in
      let close = ap length only_close in
      (omega arith, put.written ∙ sym (s.written ∙ ap (λ (r : List ℕ). take count out ++ r) only_close) ∙ rest_joined (passes none))
