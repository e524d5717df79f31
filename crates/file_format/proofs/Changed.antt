-- A file that is accepted under a reading rule is refused under every one once one of its 16-bit words is changed (rule 10.6).
use Rattle.std.specs.Prelude.{Ok, Err}
use Rattle.terms.specs.declared.Refusal.{Refusal}
use Rattle.terms.specs.Says.{Answer}
use Rattle.terms.specs.declared.Loaded.{Loaded}
use Rattle.std.proofs.Common.{◌≡◌, ℕ, zero, suc, ◌+◌, ◌*◌, ◌/◌, ◌%◌, ◌<◌, ◌≢◌, List, [], ◌∷◌, length, get_or, sym, refl, ap, ◌∙◌, ap₂, arith}
use mathlib.Core.Logic.{by_cases}
use native.Mathlib.Decide.{ℕ_discrete}
use lib.Seq.{sets}
use Rattle.terms.specs.Refusals.{NoneOf}
use Rattle.file_format.specs.Numbers.{word_sum}
use Rattle.file_format.specs.Layout.{SumsToZero}
use Rattle.file_format.specs.Causes.{Lent, load_order}
use Rattle.file_format.specs.Promises.{Loads}

-- every entry is a byte
abbrev pub Bytes : List ℕ → Type 0
Bytes file = (i : ℕ) → i < length file → get_or file i 0 < 256

-- two 16-bit words that give the same wrapped sum with a third number are equal; equal words have equal high bytes
same_rest : (more word other : ℕ) → word < 65536 → other < 65536 → (more + word) % 65536 ≡ (more + other) % 65536 → word ≡ other
same_rest more word other fits fits' sum =
    by_cases (ℕ_discrete ((more + word) / 65536) ((more + other) / 65536)) (λ same. omega arith)
    (λ apart. let no : ⊥ = omega arith in absurd no)

same_high : (low high low' high' : ℕ) → low < 256 → low' < 256 → low + 256 * high ≡ low' + 256 * high' → high ≡ high'
same_high low high low' high' l l' word = by_cases (ℕ_discrete high high') (λ same. same) (λ apart. let no : ⊥ = omega arith in absurd no)

wrapped : {k m : ℕ} → k ≡ m → k % 65536 ≡ m % 65536
wrapped q = ap (λ (k : ℕ). k % 65536) q

pull : (before word more : ℕ) → before + more + word ≡ before + (word + more)
pull before word more = omega arith

push : (before word more : ℕ) → before + word + more ≡ before + (word + more)
push before word more = omega arith

-- One word with other bytes leaves another sum, however it wraps.
same_sum : (file : List ℕ) (p low high before : ℕ) → p % 2 ≡ 0 → p + 1 < length file → Bytes file → low < 256 → high < 256
    → (before + word_sum file) % 65536 ≡ (before + word_sum (sets file p (low ∷ high ∷ []))) % 65536 → sets file p (low ∷ high ∷ []) ≡ file
unfolding word_sum
same_sum [] p low high before even within bytes l h sum = let no : ⊥ = omega arith in absurd no
same_sum (a ∷ []) p low high before even within bytes l h sum = let no : ⊥ = omega arith in absurd no
same_sum (a ∷ b ∷ more) zero low high before even within bytes l h sum =
    let first = bytes 0 (omega arith) in
    let second = bytes 1 (omega arith) in
    let word = same_rest (before + word_sum more) (low + 256 * high) (a + 256 * b) (omega arith) (omega arith)
    (wrapped (pull before (low + 256 * high) (word_sum more)) ∙ sym sum ∙ sym (wrapped (pull before (a + 256 * b) (word_sum more)))) in
    let y = same_high low high a b l first word in
    let x : low ≡ a = omega arith in
    ap₂ (λ (u : ℕ) (v : ℕ). u ∷ v ∷ more) x y
same_sum (a ∷ b ∷ more) (suc zero) low high before even within bytes l h sum = let no : ⊥ = omega arith in absurd no
same_sum (a ∷ b ∷ more) (suc (suc p)) low high before even within bytes l h sum =
    ap₂ (λ (x : ℕ) (rest : List ℕ). x ∷ b ∷ rest) refl
    (same_sum more p low high (before + (a + 256 * b)) (omega arith) (omega arith) (λ i less. bytes (suc (suc i)) (omega arith)) l h
    (wrapped (push before (a + 256 * b) (word_sum more)) ∙ sum
    ∙ sym (wrapped (push before (a + 256 * b) (word_sum (sets more p (low ∷ high ∷ [])))))))

-- a file that has no cause sums to zero
pub sums : (rule : ℕ) (file : List ℕ) (lent : Lent) → NoneOf (load_order rule file lent) → SumsToZero file
sums rule file lent none = by_cases (ℕ_discrete (word_sum file % 65536) 0) (λ is. is) (λ other. absurd (none.1.1.1.1.0 21 0 (refl, refl, other)))

-- A file whose words sum to zero is refused under every rule once one of them is changed ...
pub other_word_refused : (rule : ℕ) (file : List ℕ) (p low high : ℕ) → Bytes file → SumsToZero file → p % 2 ≡ 0 → p + 1 < length file
    → low < 256 → high < 256 → sets file p (low ∷ high ∷ []) ≢ file
    → (lent lent' : Lent) (answer : Answer Loaded) → Loads rule (sets file p (low ∷ high ∷ [])) lent lent' answer
    → (refusal : Refusal) × (answer ≡ Err refusal)
other_word_refused rule file p low high bytes a even within l h changed lent lent' (Ok _) loads =
    let b = sums rule (sets file p (low ∷ high ∷ [])) lent loads.0 in
    absurd (changed (same_sum file p low high 0 even within bytes l h (omega arith)))
other_word_refused rule file p low high bytes a even within l h changed lent lent' (Err refusal) loads = (refusal, refl)

-- ... and so is a file that is accepted.
pub changed_word_refused : (rule rule' : ℕ) (file : List ℕ) (p low high : ℕ) → Bytes file → p % 2 ≡ 0 → p + 1 < length file
    → low < 256 → high < 256 → sets file p (low ∷ high ∷ []) ≢ file
    → (lent lent' : Lent) {held : Loaded} → Loads rule file lent lent' (Ok held)
    → (other other' : Lent) (answer : Answer Loaded) → Loads rule' (sets file p (low ∷ high ∷ [])) other other' answer
    → (refusal : Refusal) × (answer ≡ Err refusal)
changed_word_refused rule rule' file p low high bytes even within l h changed lent lent' accepted =
    other_word_refused rule' file p low high bytes (sums rule file lent accepted.0) even within l h changed
