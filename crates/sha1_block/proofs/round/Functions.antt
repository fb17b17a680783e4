-- SHA-1's functions as the code computes them: of y and z before their rotation, with one rotation for both. A round, from its sum, and the values kept of a hash value.
use Rattle.std.proofs.Common.{◌≡◌, ℕ, ◌+◌, ◌%◌, ◌^◌, ◌<◌, List, [], ◌∷◌, length, get_or, refl, ap, ◌∙◌, arith}
use lib.Bits.{bit_xor, bit_and}
use Rattle.fips180.specs.Words.{ROTL, Ch, Maj}
use Rattle.fips180.specs.Sha1.{Parity, T, step}
use Rattle.fips180.proofs.Bits.{xor, xor_assoc, one-and_ch, sum_maj}
use Rattle.fips180.proofs.Rotations.{left_lt, left_xor, left_and, turned_back}
use Rattle.sha_blocks.proofs.Terms.{five_terms}
use Rattle.sha1_block.specs.Internal.{variables}

module _ (x y z : ℕ) (hx : x < 2 ^ 32) (hy : y < 2 ^ 32) (hz : z < 2 ^ 32) where
  pub rotated_ch : {p q : ℕ} → p ≡ ROTL 30 z → q ≡ ROTL 30 (bit_xor y z) → bit_xor p (bit_and x q) ≡ Ch x (ROTL 30 y) (ROTL 30 z)
  rotated_ch ep eq = (λ i. bit_xor (ep i) (bit_and x ((eq ∙ left_xor y z hy hz) i))) ∙ one-and_ch x (ROTL 30 y) (ROTL 30 z) hx (left_lt y hy) (left_lt z hz)

  pub rotated_parity : {q : ℕ} → q ≡ ROTL 30 (bit_xor y z) → bit_xor x q ≡ Parity x (ROTL 30 y) (ROTL 30 z)
  unfolding xor
  rotated_parity eq = ap (bit_xor x) (eq ∙ left_xor y z hy hz) ∙ xor_assoc x (ROTL 30 y) (ROTL 30 z) hx (left_lt y hy) (left_lt z hz)

  pub rotated_maj : {p q : ℕ} → p ≡ ROTL 30 (bit_xor y z) → q ≡ ROTL 30 (bit_and y z) → (bit_and x p + q) % 2 ^ 32 ≡ Maj x (ROTL 30 y) (ROTL 30 z)
  rotated_maj ep eq =
      (λ i. (bit_and x ((ep ∙ left_xor y z hy hz) i) + (eq ∙ left_and y z hy hz) i) % 2 ^ 32)
      ∙ sum_maj x (ROTL 30 y) (ROTL 30 z) hx (left_lt y hy) (left_lt z hz)

-- a round: the sum, which is taken modulo 2 ^ 32 at each step, and the values kept
pub stepped : (s : List ℕ) (v k w : ℕ) {a e : ℕ} → a ≡ ROTL 5 (get_or s 0 0) → e ≡ ROTL 30 (get_or s 4 0)
    → variables (((((a + v) % 2 ^ 32 + e) % 2 ^ 32 + k) % 2 ^ 32 + w) % 2 ^ 32 ∷ get_or s 0 0 ∷ get_or s 1 0 ∷ get_or s 2 0 ∷ get_or s 3 0 ∷ []) ≡ step v k w (variables s)
unfolding variables step T
stepped s v k w {a} {e} ea ee =
    let sum = five_terms a v e k w ∙ (λ i. (ea i + v + ee i + k + w) % 2 ^ 32) in
    λ i. sum i ∷ get_or s 0 0 ∷ ROTL 30 (get_or s 1 0) ∷ ROTL 30 (get_or s 2 0) ∷ ROTL 30 (get_or s 3 0) ∷ []

-- what is kept of a word is the word, rotated by 30 bits more
pub back : (x : ℕ) {y : ℕ} → x < 2 ^ 32 → y ≡ ROTL 2 x → ROTL 30 y ≡ x
back x small e = ap (λ (n : ℕ). ROTL 30 n) e ∙ turned_back x small

-- a hash value's working variables, from the values kept of it
pub kept_variables : (h : List ℕ) (c d e : ℕ) → length h ≡ 5 → ROTL 30 c ≡ get_or h 2 0 → ROTL 30 d ≡ get_or h 3 0 → ROTL 30 e ≡ get_or h 4 0
    → variables (get_or h 0 0 ∷ get_or h 1 0 ∷ c ∷ d ∷ e ∷ []) ≡ h
unfolding variables
kept_variables h c d e l ec ed ee = (λ i. get_or h 0 0 ∷ get_or h 1 0 ∷ ec i ∷ ed i ∷ ee i ∷ []) ∙ listed h l
  where
    listed : (h : List ℕ) → length h ≡ 5 → get_or h 0 0 ∷ get_or h 1 0 ∷ get_or h 2 0 ∷ get_or h 3 0 ∷ get_or h 4 0 ∷ [] ≡ h
    listed [] l = absurd (omega arith)
    listed (a ∷ []) l = absurd (omega arith)
    listed (a ∷ b ∷ []) l = absurd (omega arith)
    listed (a ∷ b ∷ c ∷ []) l = absurd (omega arith)
    listed (a ∷ b ∷ c ∷ d ∷ []) l = absurd (omega arith)
    listed (a ∷ b ∷ c ∷ d ∷ e ∷ []) l = refl
    listed (a ∷ b ∷ c ∷ d ∷ e ∷ f ∷ g) l = absurd (omega arith)
