-- Whether two lists are equal, element by element.
use Rattle.std.specs.Prelude.{ℕ, ◌≡◌, Bool, true, false, ◌&&◌, List, [], ◌∷◌, eqb}

unfoldable pub same_list : List ℕ → List ℕ → Bool
same_list [] [] = true
same_list [] (y ∷ t) = false
same_list (x ∷ s) [] = false
same_list (x ∷ s) (y ∷ t) = eqb x y && same_list s t

-- The test holds exactly of equal lists. `same_exactly` of proofs/Same.antt shows it.
abbrev pub SameExactly : Type 0
SameExactly = (s t : List ℕ) → (same_list s t ≡ true → s ≡ t) × (s ≡ t → same_list s t ≡ true)
