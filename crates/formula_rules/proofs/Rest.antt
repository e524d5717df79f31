-- The joined prefix as it is written from the left: what is still to be written at each entry, and that all of it is the joined prefix.
use Prim.Native.Nat.{ℕ, zero, suc}
use mathlib.Core.Path.{◌≡◌, refl, sym, ap, ◌∙◌, subst}
use mathlib.Core.Bool.{Bool, true, false, cond, not, ◌&&◌}
use mathlib.Core.List.{List, [], ◌∷◌, ◌++◌, append_assoc}
use mathlib.Core.Logic.{◌≢◌}
use borrow.Author.Tests.{eq-eqb, ne_eqb, eqb-true}
use lib.Dec.{eqb}
use lib.ListN.{drop}
use Rattle.terms.proofs.Common.{clash, by_test}
use Rattle.formula.specs.Meaning.{blocks, mark_of, is_zero}
use Rattle.formula.specs.InnerScan.{IsMark}
use Rattle.formula.specs.Tables.{cut, push}
use Rattle.formula_rules.specs.Joined.{in_front, joined_blocks, table_of, joined_prefix}
use Rattle.formula_rules.specs.InnerWriting.{closing}
use Rattle.formula_rules.proofs.Scanned.{mark_some}
use Rattle.formula_rules.proofs.Passing.{starts_zero, new_mark, Passes, no_more, begin, go_on, close_block, name}

-- What is still to be written for what is left of a prefix, by whether a block may open and by the mark of the block that is not closed yet, 0 if
-- there is none.
unfoldable pub rest : Bool → ℕ → List ℕ → List ℕ
rest opening last [] = closing last
rest true last (entry ∷ more) = cond (new_mark entry last more) (closing last ++ (entry ∷ rest false entry more)) (rest false last more)
rest false last (entry ∷ more) = cond (eqb entry 0) (rest true last more) (entry ∷ rest false last more)

-- The table of joined blocks behind a block with the mark `last` that is not closed yet.
unfoldable pub laid : ℕ → List (List ℕ) → List ℕ
laid zero joined = table_of joined
laid (suc last) [] = 0 ∷ []
laid (suc last) (block ∷ later) = cond (eqb (suc last) (mark_of block)) (drop 1 block ++ (0 ∷ table_of later)) (0 ∷ table_of (block ∷ later))

-- A block with variables in front of joined ones is the first of what comes of it, and has all that is laid behind its mark.
record InFront (mark v : ℕ) (variables : List ℕ) (joined : List (List ℕ)) : Type 0 where
  more : List ℕ
  later : List (List ℕ)
  is : in_front (mark ∷ v ∷ variables) joined ≡ (mark ∷ v ∷ more) ∷ later
  table : (v ∷ more) ++ (0 ∷ table_of later) ≡ (v ∷ variables) ++ laid mark joined

in_front_lem : (mark v : ℕ) (variables : List ℕ) (joined : List (List ℕ)) → mark ≢ 0 → InFront mark v variables joined
unfolding in_front laid table_of
in_front_lem zero v variables joined some = absurd (some refl)
in_front_lem (suc m) v variables [] some = record { more = variables; later = []; is = refl; table = refl }
in_front_lem (suc m) v variables (next ∷ others) some = by_test (eqb (suc m) (mark_of next)) same other
  where
    same : eqb (suc m) (mark_of next) ≡ true → InFront (suc m) v variables (next ∷ others)
    same q =
        record {
          more = variables ++ drop 1 next;
          later = others;
          is = ap (λ b. cond b ((suc m ∷ v ∷ (variables ++ drop 1 next)) ∷ others) ((suc m ∷ v ∷ variables) ∷ next ∷ others)) q;
          table = ap (λ (r : List ℕ). v ∷ r) (append_assoc variables (drop 1 next) (0 ∷ table_of others))
              ∙ sym (ap (λ b. (v ∷ variables) ++ cond b (drop 1 next ++ (0 ∷ table_of others)) (0 ∷ table_of (next ∷ others))) q);
        }

    other : eqb (suc m) (mark_of next) ≡ false → InFront (suc m) v variables (next ∷ others)
    other q =
        record {
          more = variables;
          later = next ∷ others;
          is = ap (λ b. cond b ((suc m ∷ v ∷ (variables ++ drop 1 next)) ∷ others) ((suc m ∷ v ∷ variables) ∷ next ∷ others)) q;
          table = sym (ap (λ b. (v ∷ variables) ++ cond b (drop 1 next ++ (0 ∷ table_of others)) (0 ∷ table_of (next ∷ others))) q);
        }

-- behind a block with another mark it is a block of its own, and behind one with the same mark it goes on with that
pub laid_new : (last mark v : ℕ) (variables : List ℕ) (joined : List (List ℕ)) → mark ≢ 0 → mark ≢ last
    → laid last (in_front (mark ∷ v ∷ variables) joined) ≡ closing last ++ (mark ∷ ((v ∷ variables) ++ laid mark joined))
unfolding laid table_of closing
laid_new zero mark v variables joined some other =
    let f = in_front_lem mark v variables joined some in
    ap table_of f.is ∙ ap (λ (r : List ℕ). mark ∷ r) f.table
laid_new (suc last) mark v variables joined some other =
    let f = in_front_lem mark v variables joined some in
    ap (laid (suc last)) f.is
    ∙ ap (λ b. cond b ((v ∷ f.more) ++ (0 ∷ table_of f.later)) (0 ∷ table_of ((mark ∷ v ∷ f.more) ∷ f.later)))
    (ne_eqb (suc last) mark (λ q. other (sym q)))
    ∙ ap (λ (r : List ℕ). 0 ∷ mark ∷ r) f.table

pub laid_same : (mark v : ℕ) (variables : List ℕ) (joined : List (List ℕ)) → mark ≢ 0
    → laid mark (in_front (mark ∷ v ∷ variables) joined) ≡ (v ∷ variables) ++ laid mark joined
unfolding laid table_of
laid_same zero v variables joined some = absurd (some refl)
laid_same (suc m) v variables joined some =
    let f = in_front_lem (suc m) v variables joined some in
    ap (laid (suc m)) f.is
    ∙ ap (λ b. cond b ((v ∷ f.more) ++ (0 ∷ table_of f.later)) (0 ∷ table_of ((suc m ∷ v ∷ f.more) ∷ f.later))) (eq-eqb (suc m) (suc m) refl)
    ∙ f.table

-- Inside a block the first of what is left are its variables.
record Inside (last : ℕ) (es : List ℕ) : Type 0 where
  variables : List ℕ
  later : List (List ℕ)
  is : blocks es ≡ variables ∷ later
  left : rest false last es ≡ variables ++ laid last (joined_blocks later)
  empty : starts_zero es ≡ true → variables ≡ []
  some : starts_zero es ≡ false → (v : ℕ) × (more : List ℕ) × (variables ≡ v ∷ more)

-- a mark that begins no block is that of an empty block, or equals the mark of the last one
pub old_mark : (mark last : ℕ) (more : List ℕ) → starts_zero more ≡ false → new_mark mark last more ≡ false → mark ≡ last
old_mark mark last more f old = by_test (eqb mark last) (eqb-true mark last) (λ g. absurd (clash (ap (λ b. not b && not (eqb mark last)) f ∙ ap not g) old))

pub new_mark_lem : (mark last : ℕ) (more : List ℕ) → new_mark mark last more ≡ true → (starts_zero more ≡ false) × (mark ≢ last)
new_mark_lem mark last more new =
    by_test (starts_zero more) (λ t. absurd (clash new (ap (λ b. not b && not (eqb mark last)) t)))
    (λ f. (f, λ q. clash new (ap (λ b. not b && not (eqb mark last)) f ∙ ap not (eq-eqb mark last q))))

pub blocks_cons : (entry : ℕ) (more : List ℕ) → entry ≢ 0 → blocks (entry ∷ more) ≡ push entry (blocks more)
unfolding blocks cut
blocks_cons entry more some = ap (λ b. cond b ([] ∷ cut is_zero more) (push entry (cut is_zero more))) (ne_eqb entry 0 some)

opened : (last mark : ℕ) (more : List ℕ) → IsMark mark → new_mark mark last more ≡ true → Inside mark more
    → rest true last (mark ∷ more) ≡ laid last (joined_blocks (blocks (mark ∷ more)))
unfolding rest joined_blocks
opened last mark more good new s =
    let (f, other) = new_mark_lem mark last more new in
    let (v, vs, has) = s.some f in
    let whole : blocks (mark ∷ more) ≡ (mark ∷ v ∷ vs) ∷ s.later =
    blocks_cons mark more (mark_some mark good) ∙ ap (push mark) s.is ∙ ap (λ (r : List ℕ). (mark ∷ r) ∷ s.later) has in
    ap (λ b. cond b (closing last ++ (mark ∷ rest false mark more)) (rest false last more)) new
    ∙ ap (λ (r : List ℕ). closing last ++ (mark ∷ r)) (s.left ∙ ap (λ (r : List ℕ). r ++ laid mark (joined_blocks s.later)) has)
    ∙ sym (ap (λ (bs : List (List ℕ)). laid last (joined_blocks bs)) whole ∙ laid_new last mark v vs (joined_blocks s.later) (mark_some mark good) other)

went_on : (last mark : ℕ) (more : List ℕ) → IsMark mark → new_mark mark last more ≡ false → Inside last more
    → rest true last (mark ∷ more) ≡ laid last (joined_blocks (blocks (mark ∷ more)))
unfolding rest joined_blocks in_front
went_on last mark more good old s =
    ap (λ b. cond b (closing last ++ (mark ∷ rest false mark more)) (rest false last more)) old ∙ s.left ∙ by_test (starts_zero more) dropped again
  where
    whole : blocks (mark ∷ more) ≡ (mark ∷ s.variables) ∷ s.later
    whole = blocks_cons mark more (mark_some mark good) ∙ ap (push mark) s.is

    dropped : starts_zero more ≡ true → s.variables ++ laid last (joined_blocks s.later) ≡ laid last (joined_blocks (blocks (mark ∷ more)))
    dropped t =
        ap (λ (r : List ℕ). r ++ laid last (joined_blocks s.later)) (s.empty t)
        ∙ sym (ap (λ (bs : List (List ℕ)). laid last (joined_blocks bs)) (whole ∙ ap (λ (r : List ℕ). (mark ∷ r) ∷ s.later) (s.empty t)))

    again : starts_zero more ≡ false → s.variables ++ laid last (joined_blocks s.later) ≡ laid last (joined_blocks (blocks (mark ∷ more)))
    again f =
        let (v, vs, has) = s.some f in
        let same = old_mark mark last more f old in
        ap (λ (r : List ℕ). r ++ laid last (joined_blocks s.later)) has
        ∙ subst (λ (l : ℕ). (v ∷ vs) ++ laid l (joined_blocks s.later) ≡ laid l (in_front (mark ∷ v ∷ vs) (joined_blocks s.later))) same
        (sym (laid_same mark v vs (joined_blocks s.later) (mark_some mark good)))
        ∙ sym (ap (λ (bs : List (List ℕ)). laid last (joined_blocks bs)) (whole ∙ ap (λ (r : List ℕ). (mark ∷ r) ∷ s.later) has))

-- What is left to write is the table of the joined blocks, behind what is not closed yet.
abbrev Left : Bool → ℕ → List ℕ → Type 0
Left true last es = rest true last es ≡ laid last (joined_blocks (blocks es))
Left false last es = Inside last es

left_is : {n : ℕ} {opening : Bool} {last count : ℕ} {names es : List ℕ} → Passes n opening last count names es → Left opening last es
unfolding rest laid joined_blocks blocks cut table_of closing starts_zero
left_is (no_more {last = zero}) = refl
left_is (no_more {last = suc last}) = refl
left_is (begin {mark} {last} {more = more} good new few d) = opened last mark more good new (left_is d)
left_is (go_on {mark} {last} {more = more} good old d) = went_on last mark more good old (left_is d)
left_is (close_block {last} {more = more} d) =
    record {
      variables = [];
      later = blocks more;
      is = refl;
      left = left_is d;
      empty = λ _. refl;
      some = λ f. absurd (clash refl f);
    }
left_is (name {v} {last} {more = more} nonzero low new d) =
    let s = left_is d in
    record {
      variables = v ∷ s.variables;
      later = s.later;
      is = blocks_cons v more nonzero ∙ ap (push v) s.is;
      left = ap (λ b. cond b (rest true last more) (v ∷ rest false last more)) (ne_eqb v 0 nonzero) ∙ ap (λ (r : List ℕ). v ∷ r) s.left;
      empty = λ t. absurd (nonzero (eqb-true v 0 t));
      some = λ _. (v, s.variables, refl);
    }

-- So for a whole prefix.
pub rest_joined : {n : ℕ} {es : List ℕ} → Passes n true 0 0 [] es → rest true 0 es ≡ joined_prefix es
unfolding joined_prefix laid
rest_joined d = left_is d
