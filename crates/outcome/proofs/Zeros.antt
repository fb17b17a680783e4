-- A list whose elements are all zero.
use mathlib.Core.Path.{◌≡◌, refl, ap₂}
use mathlib.Core.List.{List, [], ◌∷◌}
use Prim.Native.Nat.{ℕ, zero, suc, ◌<◌}
use native.Mathlib.Omega.{arith}
use lib.ListN.{length, get_or, replicate}

pub all_zero : (n : ℕ) (xs : List ℕ) → length xs ≡ n → ((i : ℕ) → i < n → get_or xs i 0 ≡ 0) → xs ≡ replicate n 0
all_zero zero [] l h = refl
all_zero zero (x ∷ xs) l h = absurd (omega arith)
all_zero (suc n) [] l h = absurd (omega arith)
all_zero (suc n) (x ∷ xs) l h =
    ap₂ (λ (y : ℕ) (ys : List ℕ). y ∷ ys) (h 0 (omega arith)) (all_zero n xs (omega arith) (λ i k. h (suc i) (omega arith)))
