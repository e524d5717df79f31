-- Every order is one flat list of causes, as rule 8.2 has it. These laws say of what parts each is made: the order of check, or that of a prefix,
-- stands in front, and what the call looks for behind it follows. Each holds by computing.
use Prim.Native.Nat.{ℕ}
use mathlib.Core.Path.{◌≡◌, refl}
use mathlib.Core.List.{List, [], ◌∷◌, ◌++◌}
use lib.IntN.{ℤ}
use lib.ListN.{length}
use Rattle.terms.specs.declared.Scheme.{Scheme}
use Rattle.formula.specs.Causes.{ClauseCause}
use Rattle.formula.specs.Lent.{Formula}
use Rattle.formula_rules.specs.Rules.{read_as, read_by, RuleCause, ruled_prefix, check_order}
use Rattle.forest_tables.specs.Lent.{Rows}
use Rattle.forest.specs.Causes.{AskedCause, OutputCause, entry_order, ask_order, list_order}
use Rattle.forest.specs.InnerOrders.{behind_entry, behind_check}
use Rattle.sets.specs.Sets.{sets_order}
use Rattle.sets.specs.InnerOrders.{behind_sets}
use Rattle.grow.specs.Grown.{Standing, RowsCause, build_order, add_order}
use Rattle.grow.specs.InnerOrders.{behind_add}
use Rattle.text_write.specs.InnerOrders.{write_order}
use Rattle.text_qdimacs.specs.Stored.{formula_text, writing_order}
use Rattle.path_check.specs.Causes.{path_order}
use Rattle.path_check.specs.InnerOrders.{pair_order}
use Rattle.path_resolution.specs.Paths.{resolution_order}
use Rattle.path_resolution.specs.InnerEnds.{behind_resolution}
use Rattle.expand.specs.Promise.{ResultTables, expand_order}
use Rattle.expand.specs.InnerOrders.{behind_expand}
use Rattle.dqbf_lists.specs.Causes.{ListCause, check_lists_order}
use Rattle.dqbf_lists.specs.Inner.{listed_formula}
use Rattle.dqbf_sets.specs.Answers.{set_order}
use Rattle.dqbf_text.specs.Stored.{listed_text, listed_writing_order}
use Rattle.file_format.specs.Causes.{ForestFileCause, Lent, RoomCause, load_order, store_order}
use Rattle.file_format.specs.InnerOrders.{file_order, table_order, behind_store}
use Rattle.file_format.specs.Places.{formula_held}

module _ (rule : ℕ) (f : Formula) where
  pub check_parts : check_order rule f ≡ ruled_prefix rule f.n f.prefix (length f.clauses) ++ (ClauseCause f.n f.clauses ∷ [])
  check_parts = refl

  module _ (r : Rows) (x : ℕ) where
    pub entry_parts : (y : ℕ) → entry_order rule f r x y ≡ ruled_prefix rule f.n f.prefix 0 ++ behind_entry f.n (read_as rule f.prefix) r x y
    entry_parts y = refl

    pub ask_parts : ask_order rule f r x ≡ check_order rule f ++ behind_check f.n (read_as rule f.prefix) r x
    ask_parts = refl

    pub list_parts : (P : ℕ → Type 0) (before : List ℕ) → list_order rule f r x P before ≡ ask_order rule f r x ++ (OutputCause P before ∷ [])
    list_parts P before = refl

  pub sets_parts : (scheme : Scheme) (r : Rows) (before : List ℕ)
      → sets_order rule scheme f r before ≡ check_order rule f ++ behind_sets scheme (read_by rule f) r before
  sets_parts scheme r before = refl

  pub build_parts : (s : Standing) → build_order rule f s ≡ check_order rule f ++ (RowsCause f.n s ∷ [])
  build_parts s = refl

  pub writing_parts : (out : List ℕ) → writing_order rule f out ≡ check_order rule f ++ write_order (formula_text f) out
  writing_parts out = refl

  pub path_parts : (x y : ℕ) (path : List ℕ) → path_order rule f x y path ≡ check_order rule f ++ pair_order (read_by rule f) x y path
  path_parts x y path = refl

  pub resolution_parts : (x : ℕ) (before : List ℕ) → resolution_order rule f x before ≡ check_order rule f ++ behind_resolution (read_by rule f) x before
  resolution_parts x before = refl

  pub expand_parts : (x : ℕ) (out : ResultTables) → expand_order rule f x out ≡ check_order rule f ++ behind_expand (read_by rule f) x out
  expand_parts x out = refl

  module _ (ds : List ℕ) where
    pub lists_parts : check_lists_order rule f ds ≡ listed_formula rule f (length ds) ++ (ListCause f.n (read_as rule f.prefix) ds ∷ [])
    lists_parts = refl

    pub listed_set_parts : (x : ℕ) (P : ℕ → Type 0) (before : List ℕ)
        → set_order rule f ds x P before ≡ check_lists_order rule f ds ++ (AskedCause f.n (read_as rule f.prefix) x ∷ OutputCause P before ∷ [])
    listed_set_parts x P before = refl

    pub listed_writing_parts : (out : List ℕ) → listed_writing_order rule f ds out ≡ check_lists_order rule f ds ++ write_order (listed_text f ds) out
    listed_writing_parts out = refl

  pub store_parts : (before : List ℕ) → store_order rule f before ≡ check_order rule f ++ behind_store f (read_as rule f.prefix) before
  store_parts before = refl

  pub table_parts : check_order rule f ≡ RuleCause rule ∷ table_order rule f
  table_parts = refl

pub add_parts : (rule n : ℕ) (es : List ℕ) (s : Standing) (ls : List ℤ)
    → add_order rule n es s ls ≡ ruled_prefix rule n es (length ls) ++ behind_add n (read_as rule es) s ls
add_parts rule n es s ls = refl

pub load_parts : (rule : ℕ) (file : List ℕ) (lent : Lent)
    → load_order rule file lent ≡ RuleCause rule ∷ (file_order file ++ (table_order rule (formula_held file)
    ++ (ForestFileCause (read_by rule (formula_held file)) file ∷ RoomCause (formula_held file) lent ∷ [])))
load_parts rule file lent = refl
