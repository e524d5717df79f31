-- What was lent settles what writing and reading answer and every entry that they leave (rule 18.1).
use Rattle.std.specs.Prelude.{Ok, Err}
use Rattle.terms.specs.Says.{Answer}
use Rattle.terms.specs.declared.Loaded.{Loaded}
use Rattle.std.proofs.Common.{◌≡◌, ℕ, List, sym, ap, ◌∙◌}
use Rattle.terms.proofs.Answers.{filling-settled}
use Rattle.terms.proofs.Verdicts.{refusal_unique, first_or_none}
use Rattle.formula.specs.Lent.{Formula}
use Rattle.formula_rules.specs.Rules.{read_as}
use Rattle.file_format.specs.Layout.{FileOf}
use Rattle.file_format.specs.Places.{formula_held}
use Rattle.file_format.specs.Causes.{Lent, load_order, store_order}
use Rattle.file_format.specs.Promises.{Stores, stored_in, FilledFrom, Loads}
use Rattle.file_format.proofs.Unique.{rows_unique, file_unique}

pub store_settled : (rule : ℕ) (f : Formula) (before after after' : List ℕ) (r r' : Answer ℕ)
    → Stores rule f before after r → Stores rule f before after' r' → (r ≡ r') × (after ≡ after')
store_settled rule f before after after' r r' =
    filling-settled (store_order rule f before) (FileOf rule f) (file_unique f (read_as rule f.prefix)) before after after' r r'

left_one : {read : Formula} {file : List ℕ} {lent a b : Lent} → FilledFrom read file lent a → FilledFrom read file lent b → a ≡ b
left_one {read} {file} {lent} f g = f.left ∙ ap (stored_in lent (formula_held file)) (rows_unique read f.right.0 g.right.0) ∙ sym g.left

pub load_settled : (rule : ℕ) (file : List ℕ) (lent a b : Lent) (x y : Answer Loaded) → Loads rule file lent a x → Loads rule file lent b y
    → (x ≡ y) × (a ≡ b)
load_settled rule file lent a b (Ok held) (Ok held') (none, (q, qe, ql, qs, f)) (none', (r, re, rl, rs, g)) =
    let n_is : held.n ≡ held'.n = q ∙ sym r in
    let e_is : held.prefix ≡ held'.prefix = qe ∙ sym re in
    let l_is : held.clauses ≡ held'.clauses = ql ∙ sym rl in
    let s_is : held.sets ≡ held'.sets = qs ∙ sym rs in
    (λ i. Ok (record { n = n_is i; prefix = e_is i; clauses = l_is i; sets = s_is i }), left_one f g)
load_settled rule file lent a b (Ok _) (Err refusal) f (first, same) =
    absurd (first_or_none (load_order rule file lent) _ _ first f.0)
load_settled rule file lent a b (Err refusal) (Ok _) (first, same) f =
    absurd (first_or_none (load_order rule file lent) _ _ first f.0)
load_settled rule file lent a b (Err refusal) (Err refusal') (first, same) (first', same') =
    (ap Err (refusal_unique (load_order rule file lent) refusal refusal' first first'), same ∙ sym same')
