-- Numbers as two bytes, there and back, and a list put together of its parts.
use Prim.Native.Nat.{ℕ, ◌+◌, ◌*◌, ◌/◌, ◌%◌, ◌≤◌, ◌<◌}
use mathlib.Core.Path.{◌≡◌, refl, sym, ◌∙◌}
use mathlib.Core.List.{List, [], ◌∷◌, ◌++◌}
use native.Mathlib.Nat.{add-zero}
use native.Mathlib.Omega.{arith}
use lib.ListN.{length, take, drop, get_or, length-drop, take-append-drop}
use lib.Seq.{drop-drop, get_or-drop}
use Rattle.slices.specs.Bytes.{Bytes}
use Rattle.slices.specs.Numbers.{be16, be16_at}

-- two bytes hold the number, and the number gives the two bytes
pub two_back : (n : ℕ) → n < 65536 → n / 256 % 256 * 256 + n % 256 ≡ n
two_back n h = omega arith

two_there : (a b : ℕ) → a < 256 → b < 256 → be16 (a * 256 + b) ≡ a ∷ b ∷ []
two_there a b ha hb =
    let n : ℕ = a * 256 + b in
    let p : n / 256 % 256 ≡ a = omega arith in
    let q : n % 256 ≡ b = omega arith in
    λ i. p i ∷ q i ∷ []

-- the number at a place is the one at the start of what begins there
pub number_drop : (n : ℕ) (a : List ℕ) → be16_at (drop n a) 0 ≡ be16_at a n
number_drop n a = simp (get_or-drop, add-zero)

two-first : (l : List ℕ) → 2 ≤ length l → take 2 l ≡ get_or l 0 0 ∷ get_or l 1 0 ∷ []
two-first [] h = absurd (omega arith)
two-first (a ∷ []) h = absurd (omega arith)
two-first (a ∷ b ∷ l) h = refl

-- the two bytes at a place are those of the number there
pub two_at : (n : ℕ) (a : List ℕ) → Bytes a → n + 2 ≤ length a → take 2 (drop n a) ≡ be16 (be16_at a n)
two_at n a b h =
    let size : 2 ≤ length (drop n a) = simp length-drop (omega arith) in
    simp (get_or-drop, add-zero) at (two-first (drop n a) size) ∙ sym (two_there _ _ (b n) (b (n + 1)))

-- a part of a list, before what follows it
pub onto : (n m k : ℕ) (a part after : List ℕ) → n + m ≡ k → take m (drop n a) ≡ part → after ≡ drop k a → part ++ after ≡ drop n a
onto n m k a part after s e q = rw (← e, q, ← s, ← drop-drop m n a) (take-append-drop m (drop n a))
