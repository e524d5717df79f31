-- The laws of lines of which some, or so many, are of a kind, where lines stand behind them.
use Prim.Native.Nat.{ℕ, suc}
use mathlib.Core.Path.{◌≡◌, refl, ap}
use mathlib.Core.List.{List, [], ◌∷◌, ◌++◌}
use mathlib.Core.Logic.{◌⊎◌, inl, inr}
use native.Mathlib.Omega.{arith}
use Rattle.text_lines.specs.Format.{Some, here, there, HowMany, count_none, count_one, count_other}

module _ {P : List ℕ → Type 0} where
  none_some : {lines : List (List ℕ)} → Some P lines → lines ≡ [] → ⊥
  none_some (here p) e = let no : ◌≡◌ {A = ℕ} 0 1 = cc in omega arith
  none_some (there s) e = let no : ◌≡◌ {A = ℕ} 0 1 = cc in omega arith

  pub some_nowhere : ¬ Some P []
  some_nowhere s = none_some s refl

  pub some_left : {lines : List (List ℕ)} (more : List (List ℕ)) → Some P lines → Some P (lines ++ more)
  some_left more (here p) = here p
  some_left more (there s) = there (some_left more s)

  pub some_at : (lines : List (List ℕ)) (line : List ℕ) (more : List (List ℕ)) → P line → Some P (lines ++ (line ∷ more))
  some_at [] line more p = here p
  some_at (first ∷ lines) line more p = there (some_at lines line more p)

  pub some_split : (lines : List (List ℕ)) (line : List ℕ) → Some P (lines ++ (line ∷ [])) → Some P lines ⊎ P line
  some_split [] line (here p) = inr p
  some_split [] line (there s) = absurd (some_nowhere s)
  some_split (first ∷ lines) line (here p) = inl (here p)
  some_split (first ∷ lines) line (there s) = push (some_split lines line s)
    where
      push : Some P lines ⊎ P line → Some P (first ∷ lines) ⊎ P line
      push (inl t) = inl (there t)
      push (inr p) = inr p

  pub count_last : {lines : List (List ℕ)} {line : List ℕ} {k : ℕ} → HowMany P lines k → P line → HowMany P (lines ++ (line ∷ [])) (suc k)
  count_last count_none p = count_one p count_none
  count_last (count_one q c) p = count_one q (count_last c p)
  count_last (count_other q c) p = count_other q (count_last c p)

  pub count_still : {lines : List (List ℕ)} {line : List ℕ} {k : ℕ} → HowMany P lines k → ¬ P line → HowMany P (lines ++ (line ∷ [])) k
  count_still count_none p = count_other p count_none
  count_still (count_one q c) p = count_one q (count_still c p)
  count_still (count_other q c) p = count_other q (count_still c p)

  pub count_same : {lines : List (List ℕ)} {k j : ℕ} → HowMany P lines k → HowMany P lines j → k ≡ j
  count_same count_none count_none = refl
  count_same (count_one p a) (count_one q b) = ap suc (count_same a b)
  count_same (count_one p a) (count_other q b) = absurd (q p)
  count_same (count_other p a) (count_one q b) = absurd (p q)
  count_same (count_other p a) (count_other q b) = count_same a b

  -- none is counted exactly if there is none
  pub count_nothing : {lines : List (List ℕ)} {k : ℕ} → HowMany P lines k → k ≡ 0 → ¬ Some P lines
  count_nothing count_none z s = some_nowhere s
  count_nothing (count_one p a) z s = omega arith
  count_nothing (count_other p a) z (here q) = p q
  count_nothing (count_other p a) z (there s) = count_nothing a z s

  pub nothing_counted : {lines : List (List ℕ)} {k : ℕ} → HowMany P lines k → ¬ Some P lines → k ≡ 0
  nothing_counted count_none none = refl
  nothing_counted (count_one p a) none = absurd (none (here p))
  nothing_counted (count_other p a) none = nothing_counted a (λ s. none (there s))
