-- A map at each of four entries.
use mathlib.Core.Path.{◌≡◌, refl, ◌∙◌}
use mathlib.Core.List.{List, [], ◌∷◌}
use Prim.Native.Nat.{ℕ, ◌<◌}
use native.Mathlib.Omega.{arith}
use lib.ListN.{length, get_or}
use Rattle.std.specs.Array.{IsMapOf}
use Rattle.std.specs.Fn.{Mut, Called}
use Rattle.fips197.specs.State.{State, columns}
use Rattle.fips197.proofs.Four.{four}

four_of : {A : Type 0} (d : A) (l : List A) → length l ≡ 4 → l ≡ get_or l 0 d ∷ get_or l 1 d ∷ get_or l 2 d ∷ get_or l 3 d ∷ []
four_of d [] e = absurd (omega (arith, e))
four_of d (x0 ∷ []) e = absurd (omega (arith, e))
four_of d (x0 ∷ x1 ∷ []) e = absurd (omega (arith, e))
four_of d (x0 ∷ x1 ∷ x2 ∷ []) e = absurd (omega (arith, e))
four_of d (x0 ∷ x1 ∷ x2 ∷ x3 ∷ []) e = refl
four_of d (x0 ∷ x1 ∷ x2 ∷ x3 ∷ x4 ∷ l) e = absurd (omega (arith, e))

-- the columns that a function gives of each column of a state, where each call of it computes f
module _ {F : Type 0} (g : Mut F (List ℕ × Unit {0}) (List ℕ)) (f : List ℕ → List ℕ)
    (computes : (p q : F) (x y : List ℕ) → Called g p (x, tt) y q → y ≡ f x) (p : F) (s t : State) (h : IsMapOf g p s t 4) where
  pub each_column : t ≡ columns f s
  each_column =
      let at : (i : ℕ) → i < 4 → get_or t i [] ≡ f (get_or s i []) = λ i l. let k = h.at i [] [] l in computes k.0 k.1 _ _ k.2 in
      four_of [] t h.long ∙ four (at 0 (omega arith)) (at 1 (omega arith)) (at 2 (omega arith)) (at 3 (omega arith))
