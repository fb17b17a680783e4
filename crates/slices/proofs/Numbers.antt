-- Numbers as four bytes, high byte first: the bytes of a number hold it, and four bytes are those of the number that they hold.
use Prim.Native.Nat.{ℕ, ◌+◌, ◌*◌, ◌/◌, ◌%◌, ◌^◌, ◌≤◌, ◌<◌}
use mathlib.Core.Path.{◌≡◌, refl, sym, ◌∙◌}
use mathlib.Core.List.{List, [], ◌∷◌, ◌++◌}
use native.Mathlib.Nat.{add-zero}
use native.Mathlib.Omega.{arith}
use lib.ListN.{length, take, drop, get_or, length-drop}
use lib.Seq.{get_or-drop}
use Rattle.slices.specs.Numbers.{be32, be32_at}
use Rattle.slices.specs.Bytes.{Bytes}

-- four bytes hold the number, and the number gives the four bytes
pub four_back : (n : ℕ) (rest : List ℕ) → n < 2 ^ 32 → be32_at (be32 n ++ rest) 0 ≡ n
four_back n rest h =
    let e1 : n / 2 ^ 8 ≡ n / 2 ^ 16 * 256 + n / 2 ^ 8 % 256 = omega arith in
    let e2 : n / 2 ^ 16 ≡ n / 2 ^ 24 * 256 + n / 2 ^ 16 % 256 = omega arith in
    let e3 : n / 2 ^ 24 % 256 ≡ n / 2 ^ 24 = omega arith in
    omega arith

pub four_there : (a b c d : ℕ) → a < 256 → b < 256 → c < 256 → d < 256 → be32 (a * 2 ^ 24 + b * 2 ^ 16 + c * 2 ^ 8 + d) ≡ a ∷ b ∷ c ∷ d ∷ []
four_there a b c d ha hb hc hd =
    let n : ℕ = a * 2 ^ 24 + b * 2 ^ 16 + c * 2 ^ 8 + d in
    let p : n / 2 ^ 24 % 256 ≡ a = omega arith in
    let q : n / 2 ^ 16 % 256 ≡ b = omega arith in
    let r : n / 2 ^ 8 % 256 ≡ c = omega arith in
    let s : n % 256 ≡ d = omega arith in
    λ i. p i ∷ q i ∷ r i ∷ s i ∷ []

-- the number at a place is the one at the start of what begins there
pub number_drop : (n : ℕ) (a : List ℕ) → be32_at (drop n a) 0 ≡ be32_at a n
number_drop n a = simp (get_or-drop, add-zero)

-- the first bytes of a list that has them
pub four_first : (l : List ℕ) → 4 ≤ length l → take 4 l ≡ get_or l 0 0 ∷ get_or l 1 0 ∷ get_or l 2 0 ∷ get_or l 3 0 ∷ []
four_first [] h = absurd (omega arith)
four_first (a ∷ []) h = absurd (omega arith)
four_first (a ∷ b ∷ []) h = absurd (omega arith)
four_first (a ∷ b ∷ c ∷ []) h = absurd (omega arith)
four_first (a ∷ b ∷ c ∷ d ∷ l) h = refl

-- the four bytes at a place are those of the number there
pub four_at : (n : ℕ) (a : List ℕ) → Bytes a → n + 4 ≤ length a → take 4 (drop n a) ≡ be32 (be32_at a n)
four_at n a b h =
    let size : 4 ≤ length (drop n a) = simp length-drop (omega arith) in
    simp (get_or-drop, add-zero) at (four_first (drop n a) size) ∙ sym (four_there _ _ _ _ (b n) (b (n + 1)) (b (n + 2)) (b (n + 3)))
