-- A number that is none of the first n is past the end of a table of at most n entries, and a look-up there gives 0.
use mathlib.Core.Path.{◌≡◌, refl}
use mathlib.Core.List.{List, [], ◌∷◌}
use Prim.Native.Nat.{ℕ, zero, suc, ◌≤◌}
use native.Mathlib.Nat.{le_of_suc-le-suc, not-suc-le-zero}
use native.Mathlib.Omega.{arith}
use lib.ListN.{get_or, length}
use Rattle.tables.specs.Statements.{BeyondEnd}
use Rattle.tables.specs.Table.{NoneBelow}

elsewhere : (n x : ℕ) → n ≤ x → (x ≡ n → ⊥) → suc n ≤ x
elsewhere n x h e = omega (arith, e)

none_below : (n x : ℕ) → NoneBelow n x → n ≤ x
none_below zero x h = omega arith
none_below (suc n) x h = elsewhere n x (none_below n x h.0) h.1

past_end : (l : List ℕ) (x : ℕ) → length l ≤ x → 0 ≡ get_or l x 0
past_end [] x h = refl
past_end (y ∷ l) zero h = absurd (not-suc-le-zero h)
past_end (y ∷ l) (suc x) h = past_end l x (le_of_suc-le-suc h)

pub beyond_end : BeyondEnd
beyond_end n x l h none = let p = none_below n x none in past_end l x (omega (arith, p))
