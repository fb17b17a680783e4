-- The laws of xor that the library lacks: associativity, and with it a four-term exchange.
use mathlib.Core.Path.{◌≡◌, refl, sym, ap, ap₂, ◌∙◌}
use Prim.Native.Nat.{ℕ, zero, suc, ◌+◌, ◌*◌, ◌/◌, ◌%◌, ◌<◌}
use native.Mathlib.Nat.{le_of_suc-le-suc, not-suc-le-zero, mod-lt, zero-lt-suc}
use lib.Arith.{bin_ind}
use lib.Bits.{bit_xor, differ, xor_step, xor_shr, xor_mod, xor_zero_r, xor_self}

-- what holds at 0 and at 1 holds at each number below 2
pub bit : (P : ℕ → Type 0) → P 0 → P 1 → (x : ℕ) → x < 2 → P x
bit P p0 p1 zero h = p0
bit P p0 p1 (suc zero) h = p1
bit P p0 p1 (suc (suc x)) h = absurd (not-suc-le-zero (le_of_suc-le-suc (le_of_suc-le-suc h)))

pub mod2_lt : (a : ℕ) → a % 2 < 2
mod2_lt a = mod-lt a (zero-lt-suc 1)

bit_assoc : (x y z : ℕ) → x < 2 → y < 2 → z < 2 → differ (bit_xor x y) z ≡ differ x (bit_xor y z)
bit_assoc x y z hx hy hz =
    bit (λ (n : ℕ). differ (bit_xor n y) z ≡ differ n (bit_xor y z))
    (bit (λ (n : ℕ). differ n z ≡ bit_xor n z) refl (bit (λ (n : ℕ). differ 1 n ≡ bit_xor 1 n) refl refl z hz) y hy)
    (bit (λ (n : ℕ). differ (bit_xor 1 n) z ≡ differ 1 (bit_xor n z))
    (bit (λ (n : ℕ). differ 1 n ≡ differ 1 n) refl refl z hz)
    (bit (λ (n : ℕ). differ 0 n ≡ differ 1 (bit_xor 1 n)) refl refl z hz)
    y hy)
    x hx

pub xor_assoc : (a b c : ℕ) → bit_xor (bit_xor a b) c ≡ bit_xor a (bit_xor b c)
xor_assoc a =
    bin_ind (λ (n : ℕ). (b c : ℕ) → bit_xor (bit_xor n b) c ≡ bit_xor n (bit_xor b c))
    (λ b c. refl)
    (λ n ih b c.
    xor_step (bit_xor n b) c
    ∙ ap₂ (λ (p q : ℕ). bit_xor p (c / 2) * 2 + differ q (c % 2)) (xor_shr n b 1) (xor_mod n b 1)
    ∙ ap₂ (λ (p q : ℕ). p * 2 + q) (ih (b / 2) (c / 2)) (bit_assoc (n % 2) (b % 2) (c % 2) (mod2_lt n) (mod2_lt b) (mod2_lt c))
    ∙ sym (ap₂ (λ (p q : ℕ). bit_xor (n / 2) p * 2 + differ (n % 2) q) (xor_shr b c 1) (xor_mod b c 1))
    ∙ sym (xor_step n (bit_xor b c)))
    a

-- a xor b xor b is a
pub xor_cancel : (a b : ℕ) → bit_xor (bit_xor a b) b ≡ a
xor_cancel a b = xor_assoc a b b ∙ ap (bit_xor a) (xor_self b) ∙ xor_zero_r a
