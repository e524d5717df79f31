-- A text is the text of one n and three tables (text_same), since each line leads to one stage.
use Prim.Native.Nat.{ℕ}
use mathlib.Core.Path.{◌≡◌, refl, sym, ap, ap₂, ◌∙◌, subst}
use mathlib.Core.Bool.{Bool, false}
use mathlib.Core.List.{List, [], ◌∷◌, ◌++◌, append_cancel_right}
use lib.IntN.{ℤ}
use Rattle.text_lines.specs.declared.Stage.{Stage}
use Rattle.text_lines.specs.declared.Stage.TheVariants.{Opening, Body}
use Rattle.text_qdimacs.proofs.Paths.{Path, here, step, one_path}
use Rattle.text_qdimacs.proofs.Unique.{line_same}
use Rattle.dqbf_text.specs.Format.{ListedText}
use Rattle.dqbf_text.specs.InnerGrammar.{ListedLine, a_line, a_list, ListedLines, no_line, one_more}
use Rattle.dqbf_text.specs.Reading.{Tables}
use Rattle.dqbf_text.proofs.Letters.{list_none, list_same}
use Rattle.dqbf_text.proofs.Staged.{text_staged}

-- What a line adds, and lines together.
abbrev nothing : Tables
nothing = ([], [], [])

abbrev together : Tables → Tables → Tables
together a b = (a.0 ++ b.0, a.1 ++ b.1, a.2 ++ b.2)

abbrev At : Type 0
At = Bool × Stage

abbrev Leads : At → List ℕ → At → Tables → Type 0
Leads s line t a = ListedLine s.0 s.1 line t.0 t.1 a.0 a.2 a.1

path : {b b' : Bool} {s t : Stage} {ls : List (List ℕ)} {P L : List ℕ} {C : List ℤ} → ListedLines b s ls b' t P L C
    → Path nothing together Leads (b, s) ls (b', t) (P, C, L)
path no_line = here
path (one_more line more) = step line (path more)

-- Each line leads one way.
record OneWay (b b' : Bool) (s s' : Stage) (p p' d d' : List ℕ) (c c' : List ℤ) : Type 0 where
  flag : b ≡ b'
  stage : s ≡ s'
  prefix : p ≡ p'
  lists : d ≡ d'
  clauses : c ≡ c'

listed_same : {a b b' : Bool} {s t t' : Stage} {l p p' d d' : List ℕ} {c c' : List ℤ} → ListedLine a s l b t p d c → ListedLine a s l b' t' p' d' c'
    → OneWay b b' t t' p p' d d' c c'
listed_same (a_line k x) (a_line k' y) =
    let w = line_same x y in record { flag = refl; stage = w.stage; prefix = w.prefix; lists = refl; clauses = w.clauses }
listed_same (a_line k x) (a_list z y) = absurd (list_none y x)
listed_same (a_list z x) (a_line k y) = absurd (list_none x y)
listed_same (a_list z x) (a_list z' y) = record { flag = refl; stage = refl; prefix = refl; lists = list_same x y; clauses = refl }

leads_same : (s t t' : At) (l : List ℕ) (a a' : Tables) → Leads s l t a → Leads s l t' a' → (t ≡ t') × (a ≡ a')
leads_same s t t' l a a' x y =
    let w = listed_same x y in (
      ap₂ (λ (b : Bool) (u : Stage). (b, u)) w.flag w.stage,
      ap₂ (λ (p : List ℕ) (c : List ℤ). (p, c, a.2)) w.prefix w.clauses ∙ ap (λ (d : List ℕ). (a'.0, a'.1, d)) w.lists,
    )

-- A text is the text of one n and three tables.
pub record SameTables (n n' : ℕ) (P P' L L' : List ℕ) (C C' : List ℤ) : Type 0 where
  pub number : n ≡ n'
  pub prefix : P ≡ P'
  pub lists : L ≡ L'
  pub clauses : C ≡ C'

pub text_same : {text P P' L L' : List ℕ} {C C' : List ℤ} {n n' : ℕ} → ListedText n P L C text → ListedText n' P' L' C' text → SameTables n n' P P' L L' C C'
text_same {P = P} {L = L} {C = C} {n = n} {n' = n'} t t' =
    let a = text_staged t in
    let b = text_staged t' in
    let ls = append_cancel_right a.lines b.lines ([] ∷ []) (sym a.cut ∙ b.cut) in
    let end : At = (a.listed, Body n a.announced a.announced) in
    let o =
    one_path nothing together Leads leads_same
    (subst (λ (ls : List (List ℕ)). Path nothing together Leads (false, Opening) ls end (P, C, L)) ls (path a.follow)) (path b.follow) in
    let s : Body n a.announced a.announced ≡ Body n' b.announced b.announced = ap (λ (x : At). x.1) o.0 in
    record {
      number = cc;
      prefix = ap (λ (x : Tables). x.0) o.1;
      lists = ap (λ (x : Tables). x.2) o.1;
      clauses = ap (λ (x : Tables). x.1) o.1;
    }
