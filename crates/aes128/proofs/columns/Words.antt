-- Sums, masks and turns of words are those of their bytes, one by one.
use mathlib.Core.Path.{◌≡◌, ap, ap₂, ◌∙◌, subst}
use mathlib.Core.List.{List, [], ◌∷◌}
use Prim.Native.Nat.{ℕ, ◌+◌, ◌*◌, ◌/◌, ◌%◌, ◌^◌, ◌<◌}
use native.Mathlib.Omega.{arith}
use lib.Bits.{bit_and, bit_or, bit_xor, and_block, or_block, xor_block, xor_mod, xor_shr, or_zero_l, or_zero_r}
use Rattle.fips197.specs.State.{Column, column, bytes, add_column}
use Rattle.fips197.proofs.Four.{four}
use Rattle.aes128.specs.Internal.{word_of, column_of, turned}

-- ---- words of equal bytes

pub word≡ : {a b c d e f g h : ℕ} → a ≡ e → b ≡ f → c ≡ g → d ≡ h → word_of a b c d ≡ word_of e f g h
word≡ p q r s = λ i. word_of (p i) (q i) (r i) (s i)

-- ---- sums, and masks, byte by byte

module _ (a b c d e f g h : ℕ) (ha : a < 256) (hb : b < 256) (hc : c < 256) (he : e < 256) (hf : f < 256) (hg : g < 256) where
  pub xor_word : bit_xor (word_of a b c d) (word_of e f g h) ≡ word_of (bit_xor a e) (bit_xor b f) (bit_xor c g) (bit_xor d h)
  xor_word =
      xor_block 8 ((d * 256 + c) * 256 + b) ((h * 256 + g) * 256 + f) a e ha he
      ∙ ap (λ (x : ℕ). x * 256 + bit_xor a e)
      (xor_block 8 (d * 256 + c) (h * 256 + g) b f hb hf ∙ ap (λ (x : ℕ). x * 256 + bit_xor b f) (xor_block 8 d h c g hc hg))

  pub and_word : bit_and (word_of a b c d) (word_of e f g h) ≡ word_of (bit_and a e) (bit_and b f) (bit_and c g) (bit_and d h)
  and_word =
      and_block 8 ((d * 256 + c) * 256 + b) ((h * 256 + g) * 256 + f) a e ha he
      ∙ ap (λ (x : ℕ). x * 256 + bit_and a e)
      (and_block 8 (d * 256 + c) (h * 256 + g) b f hb hf ∙ ap (λ (x : ℕ). x * 256 + bit_and b f) (and_block 8 d h c g hc hg))

-- ---- the column of a sum

pub column_xor : (x y : ℕ) → column_of (bit_xor x y) ≡ add_column (column_of x) (column_of y)
column_xor x y =
    four
    (xor_mod x y 8)
    (ap (λ (z : ℕ). z % 256) (xor_shr x y 8) ∙ xor_mod (x / 256) (y / 256) 8)
    (ap (λ (z : ℕ). z % 256) (xor_shr x y 16) ∙ xor_mod (x / 65536) (y / 65536) 8)
    (ap (λ (z : ℕ). z % 256) (xor_shr x y 24) ∙ xor_mod (x / 16777216) (y / 16777216) 8)

pub added_columns : (x y : ℕ) (u v : List ℕ) → column_of x ≡ u → column_of y ≡ v → column_of (bit_xor x y) ≡ add_column u v
added_columns x y u v p q = column_xor x y ∙ ap₂ add_column p q

-- ---- a word rotated by a byte

pub turned_by : (x : ℕ) → x < 2 ^ 32 → bit_or (x / 2 ^ 8) (x * 2 ^ 24 % 2 ^ 32) ≡ turned x
turned_by x h =
    let p : x / 2 ^ 8 ≡ 0 * 2 ^ 24 + x / 2 ^ 8 = omega arith in
    let q : x * 2 ^ 24 % 2 ^ 32 ≡ x % 256 * 2 ^ 24 + 0 = omega arith in
    let z : bit_or 0 (x % 256) * 2 ^ 24 + bit_or (x / 2 ^ 8) 0 ≡ turned x
    = ap₂ (λ (a b : ℕ). a * 2 ^ 24 + b) (or_zero_l (x % 256)) (or_zero_r (x / 2 ^ 8)) ∙ omega arith in
    ap₂ bit_or p q ∙ or_block 24 0 (x % 256) (x / 2 ^ 8) 0 (omega arith) (omega arith) ∙ z

-- ---- the bytes of a word

low_byte : (x : ℕ) → x % 256 < 256
low_byte x = omega arith

pub word-column : (x : ℕ) → Column (column_of x)
word-column x = column (low_byte x) (low_byte (x / 0x100)) (low_byte (x / 0x10000)) (low_byte (x / 0x1000000))

-- a column that a word was made of has four bytes
pub word_bytes : (x : ℕ) (w : List ℕ) → column_of x ≡ bytes (λ (y : ℕ). y) w → Column (bytes (λ (y : ℕ). y) w)
word_bytes x w e = subst Column e (word-column x)

module _ (a b c d : ℕ) (ha : a < 256) (hb : b < 256) (hc : c < 256) (hd : d < 256) where
  pub turn_word : turned (word_of a b c d) ≡ word_of b c d a
  turn_word = omega arith

  pub column-word : column_of (word_of a b c d) ≡ a ∷ b ∷ c ∷ d ∷ []
  column-word = four (omega arith) (omega arith) (omega arith) (omega arith)
