-- Inner: reach, computed as a search for any test of what may be stepped on, and the set of a universal; for worked examples.
use Rattle.std.specs.Prelude.{ℕ, zero, suc, Bool, false, cond, ◌||◌, ◌&&◌, List, [], ◌∷◌, ◌++◌, length, eqb, leb}
use Rattle.forest_theory.specs.Reach.{Variables}

-- The list has the number.
unfoldable pub has : ℕ → List ℕ → Bool
has v [] = false
has v (x ∷ xs) = eqb v x || has v xs

-- Some number is in both lists.
unfoldable pub meets : List ℕ → List ℕ → Bool
meets [] ys = false
meets (x ∷ xs) ys = has x ys || meets xs ys

-- Those that pass the test.
unfoldable pub keep : (ℕ → Bool) → List ℕ → List ℕ
keep e [] = []
keep e (w ∷ ws) = cond (e w) (w ∷ keep e ws) (keep e ws)

-- A clause that was found, and the other clauses.
pub data Found : Type 0 where
  nowhere : Found
  found : List ℕ → List (List ℕ) → Found

-- A clause passed over stays among the others.
unfoldable pub put_back : List ℕ → Found → Found
put_back clause nowhere = nowhere
put_back clause (found first others) = found first (clause ∷ others)

-- The first clause that has some of the numbers.
unfoldable pub find : List ℕ → List (List ℕ) → Found
find seen [] = nowhere
find seen (clause ∷ clauses) = cond (meets seen clause) (found clause clauses) (put_back clause (find seen clauses))

-- What is seen once a clause is found: all of it that may be stepped on is seen too, and the search goes on; else nothing more is seen.
unfoldable pub see : (List (List ℕ) → List ℕ → List ℕ) → (ℕ → Bool) → List ℕ → Found → List ℕ
see on e seen nowhere = seen
see on e seen (found clause others) = on others (keep e clause ++ seen)

-- All that is seen in the end. The fuel is the number of clauses, since each is taken at most once.
unfoldable pub spread : (ℕ → Bool) → ℕ → List (List ℕ) → List ℕ → List ℕ
spread e zero clauses seen = seen
spread e (suc fuel) clauses seen = see (λ others more. spread e fuel others more) e seen (find seen clauses)

-- All that is reached from v: each clause is taken at most once.
unfoldable pub reached : (ℕ → Bool) → List (List ℕ) → ℕ → List ℕ
reached e clauses v = spread e (length clauses) clauses (v ∷ [])

-- y is reached from v.
unfoldable pub reaches : (ℕ → Bool) → List (List ℕ) → ℕ → ℕ → Bool
reaches e clauses v y = has y (reached e clauses v)

-- The test of block i or deeper.
unfoldable pub is_from : Variables → ℕ → ℕ → Bool
is_from X i v = X.ex v && leb i (X.lev v)

-- Of n numbers from s on, those that pass the test.
unfoldable pub sift : ℕ → ℕ → (ℕ → Bool) → List ℕ
sift zero s p = []
sift (suc n) s p = let rest = sift n (suc s) p in cond (p s) (s ∷ rest) rest

-- The set of x, ascending.
unfoldable pub set_of : Variables → List (List ℕ) → ℕ → List ℕ
set_of X clauses x = let all = reached (is_from X (X.lev x)) clauses x in sift X.count 1 (λ y. X.ex y && has y all)
