-- Small texts by hand: one with a list, `d 0`, which is 16, and a quantifier line after a list line, which is 16.
use Prim.Native.Nat.{ℕ}
use mathlib.Core.Path.{◌≡◌, refl}
use mathlib.Core.Bool.{true, false}
use mathlib.Core.List.{List, [], ◌∷◌, ◌++◌}
use mathlib.Core.Option.{Option, some}
use native.Mathlib.Omega.{arith}
use lib.IntN.{pos, neg_ℤ}
use Rattle.terms.specs.Refusals.{First}
use Rattle.text_lines.specs.declared.Stage.TheVariants.{Body}
use Rattle.text_words.specs.Words.{onto, pieces, filled, words}
use Rattle.text_words.specs.InnerNumbers.{all_digits, spelt, is_number, number_of, plain_item, negated_item, item_of, prepend, closed, entry, entries_of}
use Rattle.text_words.proofs.Spelled.{spells, read_variables, read_literals}
use Rattle.text_lines.specs.Format.{ProblemLine, p_cnf, QuantifierLine, e_line, ClauseLine, literals_line, all_none, say_none, say_more, LineCause}
use Rattle.text_lines.specs.InnerGrammar.{the_problem, a_block}
use Rattle.text_qdimacs.proofs.Unique.{many_stuck}
use Rattle.dqbf_text.specs.Format.{ListLine, ListedText, ListedFollow}
use Rattle.dqbf_text.specs.InnerGrammar.{a_line, a_list, no_line, one_more, outside}
use Rattle.dqbf_text.proofs.Letters as letters
use Rattle.dqbf_text.proofs.Letters.{list_block, d_many}
use Rattle.dqbf_text.proofs.Causes.{first_cause}
use Rattle.dqbf_text.proofs.Faults.{no_listed, late_none}

-- `p cnf 3 1`, `e 2 0`, `d 3 1 0`, `d 0`, `3 -1 0`
abbrev problem : List ℕ
problem = 112 ∷ 32 ∷ 99 ∷ 110 ∷ 102 ∷ 32 ∷ 51 ∷ 32 ∷ 49 ∷ []

abbrev block : List ℕ
block = 101 ∷ 32 ∷ 50 ∷ 32 ∷ 48 ∷ []

abbrev list : List ℕ
list = 100 ∷ 32 ∷ 51 ∷ 32 ∷ 49 ∷ 32 ∷ 48 ∷ []

abbrev bare : List ℕ
bare = 100 ∷ 32 ∷ 48 ∷ []

abbrev clause : List ℕ
clause = 51 ∷ 32 ∷ 45 ∷ 49 ∷ 32 ∷ 48 ∷ []

abbrev text : List (List ℕ) → List ℕ
text [] = []
text (line ∷ more) = line ++ (10 ∷ text more)

-- each line by itself
problem_line : ProblemLine problem 3 1
unfolding words filled pieces onto number_of is_number all_digits spelt
problem_line = p_cnf refl (spells refl) (spells refl)

block_line : QuantifierLine block (1 ∷ 2 ∷ 0 ∷ [])
unfolding words filled pieces onto entries_of entry prepend closed item_of plain_item number_of is_number all_digits spelt
block_line = e_line refl (read_variables refl)

list_line : ListLine list (3 ∷ 1 ∷ 0 ∷ [])
unfolding words filled pieces onto entries_of entry prepend closed item_of plain_item number_of is_number all_digits spelt
list_line = letters.list_line refl refl

clause_line : ClauseLine clause (pos 3 ∷ neg_ℤ (pos 1) ∷ pos 0 ∷ [])
unfolding words filled pieces onto entries_of entry prepend closed item_of plain_item negated_item number_of is_number all_digits spelt
clause_line = literals_line (read_literals refl)

-- the text of n 3, the block e 2, the list 3 1 and the clause {3 -1}
pub with_list : ListedText 3 (1 ∷ 2 ∷ 0 ∷ []) (3 ∷ 1 ∷ 0 ∷ []) (pos 3 ∷ neg_ℤ (pos 1) ∷ pos 0 ∷ []) (text (problem ∷ block ∷ list ∷ clause ∷ []))
unfolding pieces onto
with_list =
    record {
      quantifiers = block ∷ [];
      list_lines = list ∷ [];
      clauses = clause ∷ [];
      lines = record { comments = []; problem = problem; cut = refl; are_comments = all_none; is_problem = problem_line };
      quantifiers_say = say_more block_line say_none;
      lists_say = say_more list_line say_none;
      clauses_say = say_more clause_line say_none;
    }

-- `d 0` is 16 at its first byte: one entry is not y and another
one_entry : (y next : ℕ) (others : List ℕ) → ◌≡◌ {A = Option (List ℕ)} (some (0 ∷ [])) (some (y ∷ next ∷ others)) → ⊥
one_entry y next others e = let no : ◌≡◌ {A = ℕ} 0 1 = cc in omega arith

pub list_of_none : First (LineCause ListedFollow (text (problem ∷ bare ∷ []))) 16 10
unfolding pieces onto words filled entries_of entry prepend closed item_of plain_item number_of is_number all_digits spelt
list_of_none =
    first_cause (record {
      lines = problem ∷ [];
      left = bare ∷ [] ∷ [];
      listed = false;
      stage = Body 3 1 0;
      prefix = [];
      lists = [];
      clauses = [];
      cut = refl;
      follow = one_more (a_line (λ e. refl) (the_problem problem_line)) no_line;
      fault = outside (λ then after p l c. no_listed 3 1 refl refl one_entry) (d_many refl);
      at = refl;
    })

-- a quantifier line after a list line is 16 at its first byte
pub late_block : First (LineCause ListedFollow (text (problem ∷ list ∷ block ∷ []))) 16 18
unfolding pieces onto
late_block =
    first_cause (record {
      lines = problem ∷ list ∷ [];
      left = block ∷ [] ∷ [];
      listed = true;
      stage = Body 3 1 0;
      prefix = [];
      lists = 3 ∷ 1 ∷ 0 ∷ [];
      clauses = [];
      cut = refl;
      follow = one_more (a_line (λ e. refl) (the_problem problem_line)) (one_more (a_list refl list_line) no_line);
      fault =
          outside (λ then after p l c. late_none (λ n m l e x. list_block x block_line) refl (a_block {n = 3} {m = 1} {k = 0} refl block_line) (λ e. let no : ◌≡◌ {A = ℕ} 0 1 = cc in omega arith))
          (λ t. many_stuck t (a_block {n = 3} {m = 1} {k = 0} refl block_line));
      at = refl;
    })
