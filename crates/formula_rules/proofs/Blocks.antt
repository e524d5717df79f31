-- The blocks of the joined prefix are the joined blocks (rule 6.2). So a prefix as a rule reads it only carries the blocks by that rule: levels and
-- quantifiers by the table are those of these blocks.
use Prim.Native.Nat.{ℕ}
use mathlib.Core.Path.{◌≡◌, refl, sym, ap, ◌∙◌, subst}
use mathlib.Core.Bool.{Bool, cond, not, ◌&&◌}
use mathlib.Core.List.{List, [], ◌∷◌, ◌++◌}
use mathlib.Core.Logic.{◌≢◌}
use native.Mathlib.Decide.{ℕ_discrete}
use borrow.Author.Tests.{eq-eqb, ne_eqb}
use lib.Dec.{eqb, leb}
use lib.ListN.{drop}
use Rattle.formula.specs.InnerLevels.{SoundPrefix}
use Rattle.formula.specs.Meaning.{blocks, is_zero, InBlock, level_of, universal_of, existential_of, level, is_universal, is_existential}
use Rattle.formula.specs.Tables.{cut, push}
use Rattle.formula.proofs.InBlocks.{of_block}
use Rattle.formula_rules.specs.Joined.{in_front, joined_blocks, table_of, joined_prefix}
use Rattle.formula_rules.specs.Rules.{blocks_by, read_as}
use Rattle.terms.proofs.Common.{by_test}
use Rattle.formula_rules.proofs.Joining.{front_cases}

-- no entry of a block is 0, and so of all blocks
abbrev pub Whole : List ℕ → Type 0
Whole [] = Unit {0}
Whole (entry ∷ more) = (entry ≢ 0) × Whole more

abbrev pub AllWhole : List (List ℕ) → Type 0
AllWhole [] = Unit {0}
AllWhole (block ∷ later) = Whole block × AllWhole later

push_whole : (entry : ℕ) (bs : List (List ℕ)) → entry ≢ 0 → AllWhole bs → AllWhole (push entry bs)
push_whole entry [] some all = tt
push_whole entry (block ∷ later) some all = ((some, all.0), all.1)

pub blocks_whole : (es : List ℕ) → AllWhole (blocks es)
unfolding blocks cut
blocks_whole [] = tt
blocks_whole (entry ∷ more) = go (ℕ_discrete entry 0) (blocks_whole more)
  where
    go : Dec (entry ≡ 0) → AllWhole (cut is_zero more) → AllWhole (cond (is_zero entry) ([] ∷ cut is_zero more) (push entry (cut is_zero more)))
    go (yes z) all = subst (λ (b : Bool). AllWhole (cond b ([] ∷ cut is_zero more) (push entry (cut is_zero more)))) (sym (eq-eqb entry 0 z)) (tt, all)
    go (no some) all =
        subst (λ (b : Bool). AllWhole (cond b ([] ∷ cut is_zero more) (push entry (cut is_zero more)))) (sym (ne_eqb entry 0 some))
        (push_whole entry (cut is_zero more) some all)

append_whole : (xs ys : List ℕ) → Whole xs → Whole ys → Whole (xs ++ ys)
append_whole [] ys p q = q
append_whole (x ∷ xs) ys p q = (p.0, append_whole xs ys p.1 q)

rest_whole : (block : List ℕ) → Whole block → Whole (drop 1 block)
rest_whole [] w = tt
rest_whole (mark ∷ variables) w = w.1

front_whole : (block : List ℕ) (later : List (List ℕ)) → Whole block → AllWhole later → AllWhole (in_front block later)
unfolding in_front
front_whole [] later w all = all
front_whole (mark ∷ []) later w all = all
front_whole (mark ∷ v ∷ variables) [] w all = (w, tt)
front_whole (mark ∷ v ∷ variables) (next ∷ later) w all =
    front_cases mark v variables AllWhole next later
    (λ same. ((w.0, (w.1.0, append_whole variables (drop 1 next) w.1.1 (rest_whole next all.0))), all.1)) (λ other. (w, all))

pub joined_whole : (bs : List (List ℕ)) → AllWhole bs → AllWhole (joined_blocks bs)
unfolding joined_blocks
joined_whole [] all = tt
joined_whole (block ∷ later) all = front_whole block (joined_blocks later) all.0 (joined_whole later all.1)

-- a table is cut into the blocks that it was made of
cut_block : (block table : List ℕ) → Whole block → cut is_zero (block ++ (0 ∷ table)) ≡ block ∷ cut is_zero table
unfolding cut
cut_block [] table w = refl
cut_block (entry ∷ more) table w =
    ap (λ b. cond b ([] ∷ cut is_zero (more ++ (0 ∷ table))) (push entry (cut is_zero (more ++ (0 ∷ table))))) (ne_eqb entry 0 w.0)
    ∙ ap (push entry) (cut_block more table w.1)

pub cut_table : (bs : List (List ℕ)) → AllWhole bs → cut is_zero (table_of bs) ≡ bs
unfolding cut table_of
cut_table [] all = refl
cut_table (block ∷ later) all = cut_block block (table_of later) all.0 ∙ ap (λ (r : List (List ℕ)). block ∷ r) (cut_table later all.1)

pub blocks_joined : (es : List ℕ) → blocks (joined_prefix es) ≡ joined_blocks (blocks es)
unfolding blocks joined_prefix
blocks_joined es = cut_table (joined_blocks (blocks es)) (joined_whole (blocks es) (blocks_whole es))

pub blocks_read : (rule : ℕ) (es : List ℕ) → blocks (read_as rule es) ≡ blocks_by rule es
unfolding read_as blocks_by
blocks_read rule es =
    by_test (eqb rule 2)
    (λ t. ap (λ b. blocks (cond b (joined_prefix es) es)) t ∙ blocks_joined es ∙ sym (ap (λ b. cond b (joined_blocks (blocks es)) (blocks es)) t))
    (λ f. ap (λ b. blocks (cond b (joined_prefix es) es)) f ∙ sym (ap (λ b. cond b (joined_blocks (blocks es)) (blocks es)) f))

module _ (rule : ℕ) (es : List ℕ) (v : ℕ) where
  pub level_read : level (read_as rule es) v ≡ level_of (blocks_by rule es) v
  unfolding level
  level_read = ap (λ (bs : List (List ℕ)). level_of bs v) (blocks_read rule es)

  pub universal_read : is_universal (read_as rule es) v ≡ universal_of (blocks_by rule es) v
  unfolding is_universal
  universal_read = ap (λ (bs : List (List ℕ)). universal_of bs v) (blocks_read rule es)

  pub existential_read : (n : ℕ) → is_existential n (read_as rule es) v ≡ existential_of n (blocks_by rule es) v
  unfolding is_existential
  existential_read n = ap (λ (b : Bool). leb 1 v && leb v n && not b) universal_read

-- So where a rule accepts a prefix, the level of a variable is the number of its block by that rule, and its quantifier that block's.
pub block_read : {n : ℕ} (rule : ℕ) (es : List ℕ) → SoundPrefix n (read_as rule es) → {v k m : ℕ} → InBlock (blocks_by rule es) v k m
    → (level (read_as rule es) v ≡ k) × (is_universal (read_as rule es) v ≡ eqb m 2)
block_read rule es sound {v} {k} {m} b = of_block sound v (subst (λ (bs : List (List ℕ)). InBlock bs v k m) (sym (blocks_read rule es)) b)
