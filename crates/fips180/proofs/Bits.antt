-- The functions Ch and Maj of FIPS 180-4 with one `and`, Maj as a sum, and two functions of three words that agree on digits agree.
use mathlib.Core.Path.{◌≡◌, refl, sym, ap, ◌∙◌, subst}
use Prim.Native.Nat.{ℕ, zero, suc, ◌+◌, ◌-◌, ◌*◌, ◌/◌, ◌%◌, ◌^◌, ◌<◌}
use native.Mathlib.Nat.{mod-lt, mod-eq_of_lt, pow-suc}
use native.Mathlib.Omega.{arith}
use lib.Pow.{pow_pos}
use lib.Bits.{bit_and, bit_xor, xor_shr, and_shr, xor_mod, and_mod, xor_disjoint, xor_lt, and_lt}
use Rattle.fips180.specs.Words.{Ch, Maj}

-- the operations, shut
unfoldable pub xor : ℕ → ℕ → ℕ
xor a b = bit_xor a b

unfoldable pub and : ℕ → ℕ → ℕ
and a b = bit_and a b

pub xor_half : (a b : ℕ) → xor a b / 2 ≡ xor (a / 2) (b / 2)
unfolding xor
xor_half a b = xor_shr a b 1

pub xor_odd : (a b : ℕ) → xor a b % 2 ≡ xor (a % 2) (b % 2)
unfolding xor
xor_odd a b = xor_mod a b 1

pub and_half : (a b : ℕ) → and a b / 2 ≡ and (a / 2) (b / 2)
unfolding and
and_half a b = and_shr a b 1

pub and_odd : (a b : ℕ) → and a b % 2 ≡ and (a % 2) (b % 2)
unfolding and
and_odd a b = and_mod a b 1

-- ---- two functions of three words, equal when they are equal on digits

digits : (x y : ℕ) → x / 2 ≡ y / 2 → x % 2 ≡ y % 2 → x ≡ y
digits x y p q = omega arith

only_zero : (x : ℕ) → x < 1 → x ≡ 0
only_zero x h = omega arith

half_less : (p x : ℕ) → x < p * 2 → x / 2 < p
half_less p x h = omega arith

half_word : (k x : ℕ) → x < 2 ^ suc k → x / 2 < 2 ^ k
half_word k x h = half_less (2 ^ k) x (subst (λ (n : ℕ). x < n) (pow-suc 2 k) h)

-- a digit is 0 or 1
on_digit : (P : ℕ → Type 0) → P 0 → P 1 → (x : ℕ) → x < 2 → P x
on_digit P p q zero h = p
on_digit P p q (suc zero) h = q
on_digit P p q (suc (suc x)) h = absurd (omega arith)

module _ (F G : ℕ → ℕ → ℕ → ℕ → ℕ)
    (F-half : (k x y z : ℕ) → x < 2 ^ suc k → F (suc k) x y z / 2 ≡ F k (x / 2) (y / 2) (z / 2))
    (F-odd : (k x y z : ℕ) → x < 2 ^ suc k → F (suc k) x y z % 2 ≡ F 1 (x % 2) (y % 2) (z % 2))
    (G-half : (k x y z : ℕ) → G (suc k) x y z / 2 ≡ G k (x / 2) (y / 2) (z / 2))
    (G-odd : (k x y z : ℕ) → G (suc k) x y z % 2 ≡ G 1 (x % 2) (y % 2) (z % 2))
    (none : F 0 0 0 0 ≡ G 0 0 0 0)
    (table : (x y z : ℕ) → x < 2 → y < 2 → z < 2 → F 1 x y z ≡ G 1 x y z) where
  pub by_digits : (k x y z : ℕ) → x < 2 ^ k → y < 2 ^ k → z < 2 ^ k → F k x y z ≡ G k x y z
  by_digits zero x y z hx hy hz =
      (λ i. F 0 (only_zero x hx i) (only_zero y hy i) (only_zero z hz i)) ∙ none
      ∙ (λ i. G 0 (sym (only_zero x hx) i) (sym (only_zero y hy) i) (sym (only_zero z hz) i))
  by_digits (suc k) x y z hx hy hz =
      digits (F (suc k) x y z) (G (suc k) x y z)
      (F-half k x y z hx ∙ by_digits k (x / 2) (y / 2) (z / 2) (half_word k x hx) (half_word k y hy) (half_word k z hz) ∙ sym (G-half k x y z))
      (F-odd k x y z hx ∙ table (x % 2) (y % 2) (z % 2) (mod-lt x (pow_pos 1)) (mod-lt y (pow_pos 1)) (mod-lt z (pow_pos 1)) ∙ sym (G-odd k x y z))

pub on_digits : (P : ℕ → ℕ → ℕ → Type 0) → P 0 0 0 → P 0 0 1 → P 0 1 0 → P 0 1 1 → P 1 0 0 → P 1 0 1 → P 1 1 0 → P 1 1 1
    → (x y z : ℕ) → x < 2 → y < 2 → z < 2 → P x y z
on_digits P a b c d e f g h x y z hx hy hz =
    on_digit (λ (x : ℕ). P x y z)
    (on_digit (λ (y : ℕ). P 0 y z) (on_digit (P 0 0) a b z hz) (on_digit (P 0 1) c d z hz) y hy)
    (on_digit (λ (y : ℕ). P 1 y z) (on_digit (P 1 0) e f z hz) (on_digit (P 1 1) g h z hz) y hy)
    x hx

xor_assoc_none : xor 0 (xor 0 0) ≡ xor (xor 0 0) 0
unfolding xor
xor_assoc_none = refl

xor_assoc_table : (x y z : ℕ) → x < 2 → y < 2 → z < 2 → xor x (xor y z) ≡ xor (xor x y) z
unfolding xor
xor_assoc_table = on_digits (λ x y z. xor x (xor y z) ≡ xor (xor x y) z) refl refl refl refl refl refl refl refl

pub xor_assoc : (x y z : ℕ) → x < 2 ^ 32 → y < 2 ^ 32 → z < 2 ^ 32 → xor x (xor y z) ≡ xor (xor x y) z
xor_assoc =
    by_digits (λ k x y z. xor x (xor y z)) (λ k x y z. xor (xor x y) z)
    (λ k x y z h. simp xor_half) (λ k x y z h. simp xor_odd) (λ k x y z. simp xor_half) (λ k x y z. simp xor_odd)
    xor_assoc_none xor_assoc_table 32

-- Maj with one `and`
majority_none : xor 0 (and (xor 0 0) (xor 0 0)) ≡ xor (xor (and 0 0) (and 0 0)) (and 0 0)
unfolding xor and
majority_none = refl

majority_table : (x y z : ℕ) → x < 2 → y < 2 → z < 2 → xor y (and (xor x y) (xor y z)) ≡ xor (xor (and x y) (and x z)) (and y z)
unfolding xor and
majority_table = on_digits (λ x y z. xor y (and (xor x y) (xor y z)) ≡ xor (xor (and x y) (and x z)) (and y z)) refl refl refl refl refl refl refl refl

majority : (x y z : ℕ) → x < 2 ^ 32 → y < 2 ^ 32 → z < 2 ^ 32 → xor y (and (xor x y) (xor y z)) ≡ xor (xor (and x y) (and x z)) (and y z)
majority =
    by_digits (λ k x y z. xor y (and (xor x y) (xor y z))) (λ k x y z. xor (xor (and x y) (and x z)) (and y z))
    (λ k x y z h. simp (xor_half, and_half)) (λ k x y z h. simp (xor_odd, and_odd)) (λ k x y z. simp (xor_half, and_half)) (λ k x y z. simp (xor_odd, and_odd))
    majority_none majority_table 32

-- Maj as a sum: the words that are added have no bit in common
apart_none : and (and 0 (xor 0 0)) (and 0 0) ≡ 0
unfolding xor and
apart_none = refl

apart_table : (x y z : ℕ) → x < 2 → y < 2 → z < 2 → and (and x (xor y z)) (and y z) ≡ 0
unfolding xor and
apart_table = on_digits (λ x y z. and (and x (xor y z)) (and y z) ≡ 0) refl refl refl refl refl refl refl refl

apart : (x y z : ℕ) → x < 2 ^ 32 → y < 2 ^ 32 → z < 2 ^ 32 → and (and x (xor y z)) (and y z) ≡ 0
apart =
    by_digits (λ k x y z. and (and x (xor y z)) (and y z)) (λ k x y z. 0)
    (λ k x y z h. simp (xor_half, and_half)) (λ k x y z h. simp (xor_odd, and_odd)) (λ k x y z. refl) (λ k x y z. refl)
    apart_none apart_table 32

joined-none : xor (and 0 (xor 0 0)) (and 0 0) ≡ xor (xor (and 0 0) (and 0 0)) (and 0 0)
unfolding xor and
joined-none = refl

joined_table : (x y z : ℕ) → x < 2 → y < 2 → z < 2 → xor (and x (xor y z)) (and y z) ≡ xor (xor (and x y) (and x z)) (and y z)
unfolding xor and
joined_table = on_digits (λ x y z. xor (and x (xor y z)) (and y z) ≡ xor (xor (and x y) (and x z)) (and y z)) refl refl refl refl refl refl refl refl

joined : (x y z : ℕ) → x < 2 ^ 32 → y < 2 ^ 32 → z < 2 ^ 32 → xor (and x (xor y z)) (and y z) ≡ xor (xor (and x y) (and x z)) (and y z)
joined =
    by_digits (λ k x y z. xor (and x (xor y z)) (and y z)) (λ k x y z. xor (xor (and x y) (and x z)) (and y z))
    (λ k x y z h. simp (xor_half, and_half)) (λ k x y z h. simp (xor_odd, and_odd)) (λ k x y z. simp (xor_half, and_half)) (λ k x y z. simp (xor_odd, and_odd))
    joined-none joined_table 32

-- Ch with one `and`. A word's complement has the complement's digits
not_half : (p x : ℕ) → x < p * 2 → (p * 2 - 1 - x) / 2 ≡ p - 1 - x / 2
not_half p x h = omega arith

not_odd : (p x : ℕ) → x < p * 2 → (p * 2 - 1 - x) % 2 ≡ 1 - x % 2
not_odd p x h = omega arith

choice_none : xor (and 0 0) (and (2 ^ 0 - 1 - 0) 0) ≡ xor 0 (and 0 (xor 0 0))
unfolding xor and
choice_none = refl

choice_table : (x y z : ℕ) → x < 2 → y < 2 → z < 2 → xor (and x y) (and (2 ^ 1 - 1 - x) z) ≡ xor z (and x (xor y z))
unfolding xor and
choice_table = on_digits (λ x y z. xor (and x y) (and (2 ^ 1 - 1 - x) z) ≡ xor z (and x (xor y z))) refl refl refl refl refl refl refl refl

choice : (x y z : ℕ) → x < 2 ^ 32 → y < 2 ^ 32 → z < 2 ^ 32 → xor (and x y) (and (2 ^ 32 - 1 - x) z) ≡ xor z (and x (xor y z))
choice =
    by_digits (λ k x y z. xor (and x y) (and (2 ^ k - 1 - x) z)) (λ k x y z. xor z (and x (xor y z)))
    (λ k x y z h. simp (xor_half, and_half) (ap (λ (n : ℕ). xor (and (x / 2) (y / 2)) (and n (z / 2))) (half k x h)))
    (λ k x y z h. simp (xor_odd, and_odd) (ap (λ (n : ℕ). xor (and (x % 2) (y % 2)) (and n (z % 2))) (odd k x h)))
    (λ k x y z. simp (xor_half, and_half)) (λ k x y z. simp (xor_odd, and_odd))
    choice_none choice_table 32
  where
    half : (k x : ℕ) → x < 2 ^ suc k → (2 ^ suc k - 1 - x) / 2 ≡ 2 ^ k - 1 - x / 2
    half k x h = ap (λ (n : ℕ). (n - 1 - x) / 2) (pow-suc 2 k) ∙ not_half (2 ^ k) x (subst (λ (n : ℕ). x < n) (pow-suc 2 k) h)

    odd : (k x : ℕ) → x < 2 ^ suc k → (2 ^ suc k - 1 - x) % 2 ≡ 2 ^ 1 - 1 - x % 2
    odd k x h = ap (λ (n : ℕ). (n - 1 - x) % 2) (pow-suc 2 k) ∙ not_odd (2 ^ k) x (subst (λ (n : ℕ). x < n) (pow-suc 2 k) h)

-- ---- what the code computes

pub one-and_ch : (x y z : ℕ) → x < 2 ^ 32 → y < 2 ^ 32 → z < 2 ^ 32 → bit_xor z (bit_and x (bit_xor y z)) ≡ Ch x y z
unfolding xor and
one-and_ch x y z hx hy hz = sym (choice x y z hx hy hz)

pub one-and_maj : (x y z : ℕ) → x < 2 ^ 32 → y < 2 ^ 32 → z < 2 ^ 32 → bit_xor y (bit_and (bit_xor x y) (bit_xor y z)) ≡ Maj x y z
unfolding xor and
one-and_maj x y z hx hy hz = majority x y z hx hy hz

pub sum_maj : (x y z : ℕ) → x < 2 ^ 32 → y < 2 ^ 32 → z < 2 ^ 32 → (bit_and x (bit_xor y z) + bit_and y z) % 2 ^ 32 ≡ Maj x y z
unfolding xor and
sum_maj x y z hx hy hz =
    let e : bit_and x (bit_xor y z) + bit_and y z ≡ Maj x y z = sym (xor_disjoint (bit_and x (bit_xor y z)) (bit_and y z) (apart x y z hx hy hz)) ∙ joined x y z hx hy hz in
    let l : Maj x y z < 2 ^ 32 = xor_lt 32 (bit_xor (bit_and x y) (bit_and x z)) (bit_and y z) (xor_lt 32 (bit_and x y) (bit_and x z) (and_lt 32 x y hx hy) (and_lt 32 x z hx hz)) (and_lt 32 y z hy hz) in
    ap (λ (n : ℕ). n % 2 ^ 32) e ∙ mod-eq_of_lt l
