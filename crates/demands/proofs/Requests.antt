-- The claims of the requests, most of them theorems of the crates that are concerned; what is added here goes from what a call wrote to what another writes.
use Prim.Native.Nat.{ℕ, ◌+◌, ◌<◌, ◌%◌}
use mathlib.Core.Path.{◌≡◌, refl, sym, ap, ◌∙◌, subst}
use mathlib.Core.List.{List, [], ◌∷◌, ◌++◌, Memᴰ}
use mathlib.Core.Logic.{◌≢◌, inl, inr, ⊎_elim}
use native.Mathlib.Omega.{arith}
use lib.IntN.{ℤ}
use lib.ListN.{length, take}
use Rattle.std.specs.Prelude.{Ok, Err}
use Rattle.terms.specs.Answers.{InFront}
use Rattle.terms.specs.Listed.{Listed}
use Rattle.terms.specs.Refusals.{None, NoneOf}
use Rattle.terms.specs.Says.{Answer, accepted}
use Rattle.terms.specs.declared.Loaded.{Loaded}
use Rattle.terms.specs.declared.Refusal.{Refusal}
use Rattle.terms.specs.declared.Scheme.TheVariants.{Standard, Strict}
use Rattle.terms.proofs.Answers.{listed-as}
use Rattle.terms.proofs.Common.{clash}
use Rattle.terms.proofs.Listed.{listed_one}
use Rattle.terms.proofs.Overwritten.{overwritten_front}
use Rattle.terms.proofs.Verdicts.{at0_none, judged_unique}
use Rattle.formula.specs.Lent.{Formula, formula_of}
use Rattle.formula.specs.Meaning.{clauses}
use Rattle.formula_rules.specs.Rules.{read_as, read_by}
use Rattle.formula_rules.proofs.Agreement.{check_agrees}
use Rattle.forest_tables.specs.Lent.{variables_of}
use Rattle.forest.specs.Answers.{EntriesBy, MembersBy, DependsBy}
use Rattle.forest.specs.Causes.{AskedCause}
use Rattle.forest.proofs.Agreed.{entry_agrees, list_agrees, size_agrees}
use Rattle.forest.proofs.Demands.{set_is_dependencies, size_is_count}
use Rattle.forest.proofs.Strict.{strict_set_within, one_sign_set, one_sign_entries, one_sign_size}
use Rattle.sets.proofs.Agreed.{sets_agree}
use Rattle.grow.proofs.Agreed.{build_agrees, add_agrees}
use Rattle.grow_reduced.proofs.Adding.{same_add}
use Rattle.grow_reduced.proofs.AllSets.{same_sets_listed}
use Rattle.grow_reduced.proofs.Calls.{same_build, same_set_listed, same_size_told}
use Rattle.text_qdimacs.proofs.Agreed.{write_agrees}
use Rattle.dqbf_lists.specs.Causes.{ListedLengthCause, ListCause, check_lists_order}
use Rattle.dqbf_lists.proofs.Agreement.{check_agrees as lists_agree}
use Rattle.dqbf_lists.proofs.Ordering.{to_listed}
use Rattle.dqbf_sets.specs.Depends.{DependsOnBy}
use Rattle.dqbf_sets.proofs.Agreement.{agrees_under, set_agrees}
use Rattle.dqbf_text.proofs.Accepted.{written_reads_back as listed-reads-back}
use Rattle.path_check.specs.Causes.{path_order}
use Rattle.path_check.proofs.Demands.{accepted_depends, depends_path, path_agrees}
use Rattle.path_resolution.specs.Paths.{DependsByPaths}
use Rattle.path_resolution.proofs.Outcomes.{resolution_agrees}
use Rattle.path_resolution.proofs.Within.{paths_strict}
use Rattle.expand_clauses.specs.Expansion.{expanded_clauses}
use Rattle.expand_clauses.specs.Total.{literals}
use Rattle.expand_clauses.proofs.Cutting.{clauses_expanded}
use Rattle.expand_clauses.proofs.Tied.{total_of_members}
use Rattle.expand.proofs.Accepted.{result_accepted}
use Rattle.expand.proofs.Tight.{expand_agrees}
use Rattle.file_format.specs.Causes.{Lent}
use Rattle.file_format.specs.Layout.{SumsToZero, FileOf}
use Rattle.file_format.specs.Promises.{Stores, Loads}
use Rattle.file_format.proofs.Agreed.{store_agrees, load_agrees}
use Rattle.file_format.proofs.AllBytes.{file_in_bytes}
use Rattle.file_format.proofs.Changed.{Bytes, other_word_refused}
use Rattle.file_format.proofs.RoundTrip.{written_reads_back}
use Rattle.file_format.proofs.Short.{in_front_lem}
use Rattle.file_layout.proofs.Rewritten.{written_again}
use Rattle.demands.specs.Requests.{Wrote, with_word, ExpandedTotal, NoListsAgree, RulesAgree, Reduced, ReducedAlike, Requests}
use Rattle.demands.proofs.Putting.{puts, puts_one}
use Rattle.demands.proofs.Demand2.{built_checked, built_forest, demand2}

-- What stands in front in a table is the list that was written.
front_is : (L : List ℕ → Type 0) (before after : List ℕ) (count : ℕ) (written : InFront L before after count) → take count after ≡ written.0
front_is L before after count (list, is, size, left) =
    ap (λ (k : ℕ). take k after) size ∙ ap (take (length list)) left ∙ overwritten_front list before

-- So what is written of fewer is among what is written of more.
among : (P Q : ℕ → Type 0) (before after before' after' : List ℕ) (count count' : ℕ) → ((y : ℕ) → P y → Q y)
    → InFront (Listed P) before after count → InFront (Listed Q) before' after' count' → (y : ℕ) → Wrote count after y → Wrote count' after' y
among P Q before after before' after' count count' more a b y m =
    subst (Memᴰ y) (sym (front_is (Listed Q) before' after' count' b))
    (b.1.all y (more y (a.1.each y (subst (Memᴰ y) (front_is (Listed P) before after count a) m))))

-- A file that was written is made of bytes, and its words sum to zero.
changed : (rule rule' : ℕ) (f : Formula) (before after : List ℕ) (count place low high : ℕ) → Stores rule f before after (Ok count)
    → place % 2 ≡ 0 → place + 1 < count → low < 256 → high < 256 → with_word (take count after) place low high ≢ take count after
    → (lent lent' : Lent) (answer : Answer Loaded) → Loads rule' (with_word (take count after) place low high) lent lent' answer
    → (refusal : Refusal) × (answer ≡ Err refusal)
changed rule rule' f before after count place low high stores even within l h other =
    let (file, g, is) = in_front_lem rule f before after count stores in
    let size : count ≡ length (take count after) = stores.1.2 ∙ ap length (sym (front_is (FileOf rule f) before after count stores.1)) in
    other_word_refused rule' (take count after) place low high (subst Bytes (sym is) (file_in_bytes f (read_as rule f.prefix) file g))
    (subst SumsToZero (sym is) g.sum) even (omega arith) l h other

rules_agree : RulesAgree
rules_agree =
    record {
      check = check_agrees;
      build = λ f none s s' a. build_agrees f s s' a none;
      add = λ n es clause none s s' a. add_agrees n es s clause s' a none;
      entry_point = λ n es none r x y a. entry_agrees (formula_of n es []) r x y none a;
      entry_points = λ f none scheme r x before after a. list_agrees f r x none (λ read. EntriesBy scheme read r x) before after a;
      set = λ f none scheme r x before after a. list_agrees f r x none (λ read. MembersBy scheme read r x) before after a;
      size = λ f none scheme r x a. size_agrees f r x none scheme a;
      sets = λ f none scheme r before after a. sets_agree scheme f r none before after a;
      write = write_agrees;
      path = λ f none x y path v. path_agrees f x y path v none;
      resolution_set = λ f none x before after a. resolution_agrees f x before after a none;
      expand = λ f none x out out' a. expand_agrees f x out out' a none;
      store = store_agrees;
      load = λ file none lent lent' a. load_agrees file lent lent' a none;
      check_lists = λ f lists short none v. lists_agree f lists ((to_listed 1 f (length lists) short []).none none) v;
      listed_set = λ f lists short none scheme x before after a.
          set_agrees f lists ((to_listed 1 f (length lists) short []).none none) scheme x before after a;
    }

-- The table that expand left holds the expanded clauses.
total : ExpandedTotal
total rule f x out out' counts (none, (members, set, leaves)) =
    let table = expanded_clauses x f.n members f.clauses in
    let front : take counts.clauses out'.clauses ≡ table =
    ap (λ (k : ℕ). take k out'.clauses) leaves.literals_is ∙ ap (take (length table)) leaves.clauses_is ∙ overwritten_front table out.clauses in (
      members,
      set,
      ap (λ (ls : List ℤ). literals (clauses ls)) front ∙ ap literals (clauses_expanded x f.n members f.clauses)
          ∙ total_of_members f.n members x f.clauses,
    )

reduced_alike : (rule n : ℕ) (es : List ℕ) (ls ls' : List ℤ) → Reduced rule n es ls ls' → ReducedAlike rule (formula_of n es ls) (formula_of n es ls')
reduced_alike rule n es ls ls' r =
    record {
      build = λ s s' s'' a b. same_build rule n es r.reduction r.accepted r.accepted' a b;
      set = λ scheme rows x. same_set_listed rule n es r.reduction r.accepted r.accepted' rows x scheme;
      size = λ scheme rows x. same_size_told rule n es r.reduction r.accepted r.accepted' rows x scheme;
      sets = λ scheme rows. same_sets_listed rule n es r.reduction r.accepted r.accepted' rows scheme;
    }

-- No list has no cause, and what depends by no list is what depends by reach.
no_list_cause : (n : ℕ) (es : List ℕ) → None (ListCause n es [])
no_list_cause n es k e (ListCause.outside _ m _) = let l = m.0 in omega arith
no_list_cause n es k e (ListCause.in_block _ m _) = let l = m.0 in omega arith
no_list_cause n es k e (ListCause.listed_before _ _ m _ _ _) = let l = m.0 in omega arith
no_list_cause n es k e (ListCause.no_universal _ v _) = let l = v.0 in omega arith
no_list_cause n es k e (ListCause.twice _ _ v _ _ _) = let l = v.0 in omega arith
no_list_cause n es k e (ListCause.ends_inside _ _ inside) = let l = inside.0 in omega arith

no_lists_agree : NoListsAgree
no_lists_agree rule scheme f s x before after after' answer answer' built u listed set =
    let none = built_checked built in
    let lengths : None (ListedLengthCause f 0) =
    at0_none 2 (⊎_elim (λ long. none.1.1.0 2 0 (refl, refl, inl long)) (⊎_elim (λ long. none.1.1.0 2 0 (refl, refl, inr long)) (λ long. omega arith))) in
    let checked : NoneOf (check_lists_order rule f []) =
    (none.0, (none.1.0, (lengths, (none.1.1.1.0, (none.1.1.1.1.0, (no_list_cause f.n (read_as rule f.prefix), tt)))))) in
    let asked : NoneOf (check_lists_order rule f [] ++ (AskedCause f.n (read_as rule f.prefix) x ∷ [])) =
    (none.0, (none.1.0, (lengths, (none.1.1.1.0, (none.1.1.1.1.0, (no_list_cause f.n (read_as rule f.prefix), (at0_none 13 (λ no. clash u no), tt))))))) in
    puts_one (λ list other l o. listed_one list other (listed-as (agrees_under rule f x checked u scheme) l) o)
    (puts (check_lists_order rule f [] ++ (AskedCause f.n (read_as rule f.prefix) x ∷ [])) (Listed (DependsOnBy scheme (read_by rule f) [] x))
    before after answer asked listed)
    (demand2.set rule scheme f s x before after' answer' built u set)

pub requests : Requests
requests =
    record {
      size_is_length = λ rule scheme f r x size count before after. size_is_count rule f r x scheme size count before after;
      strict_within = λ rule f r x count count' before after before' after' a b.
          among (MembersBy Strict (read_by rule f) r x) (MembersBy Standard (read_by rule f) r x) before after before' after' count count'
          (strict_set_within (read_by rule f) r x) a.1 b.1;
      one_sign = λ rule f r x count one. (
        λ before after. one_sign_set rule f r x one.0 one.1 before after count,
        λ before after. one_sign_entries rule f r x one.0 one.1 before after count,
        one_sign_size rule f r x one.0 one.1 count,
      );
      file_reads_back = λ rule f before after count lent lent' answer stores room loads.
          written_reads_back rule f before after count stores lent room lent' answer loads;
      changed_word = changed;
      written_again = λ rule file lent lent' held before after answer bytes loads room.
          written_again rule file bytes lent lent' loads before after answer room;
      rules = rules_agree;
      path = accepted_depends;
      has_path = λ rule f x y sound u d.
          let (path, short, none) = depends_path rule f x y sound u d in
          (path, short, λ verdict judged. judged_unique (path_order rule f x y path) verdict accepted judged none);
      total = total;
      expanded = result_accepted;
      reduced = reduced_alike;
      adding_reduced = λ rule n es clause s s' s'' a b short first. same_add rule n es clause short first a b;
      no_lists = no_lists_agree;
      listed_text = λ rule f lists out out' bytes before after answer writes p c l reads.
          let back = listed-reads-back rule f lists before after p c l out out' bytes writes answer reads in
          (back.answer, back.prefix_left, back.clauses_left, back.lists_left);
      resolution = λ rule f s x count count' before after before' after' built a b.
          among (DependsByPaths (variables_of (read_by rule f)) f.clauses x) (DependsBy Strict (read_by rule f) x) before after before' after' count count'
          (λ y d. paths_strict (read_by rule f) d) a.1
          (set_is_dependencies rule f s.rows x (built_forest built) Strict before' after' count' b);
    }
