-- What the bytes of a column bring to it, each a word of the table, sums up to the mixed column of the bytes that the S-box gives.
use mathlib.Core.Path.{◌≡◌, sym, ap, ap₂, ◌∙◌}
use mathlib.Core.List.{List, [], ◌∷◌}
use Prim.Native.Nat.{ℕ, ◌<◌}
use lib.Bits.{bit_xor, xor_comm}
use lib.ListN.{get_or}
use Rattle.aes_sbox.specs.Field.{mul}
use Rattle.aes_sbox.specs.Sbox.{sbox_of, inv_sbox_of}
use Rattle.aes_sbox.specs.Tables.{mixed_word, unmixed_word}
use Rattle.aes_sbox.proofs.Tables.{sbox_of_byte, inv_sbox_of_byte}
use Rattle.fips197.specs.State.{Column, column, bytes, mix_byte, inv_mix_byte, mix_column, inv_mix_column}
use Rattle.fips197.proofs.Four.{four}
use Rattle.fips197.proofs.Mix.{exchange}
use Rattle.fips197.proofs.Steps.{mul_byte, xor_byte}
use Rattle.fips197.proofs.Xor.{xor_assoc}
use Rattle.aes128.specs.Internal.{word_of, column_of, turned, sum_of, sum_column}
use Rattle.aes128.proofs.columns.Words.{xor_word, turn_word, column-word}

-- ---- the sum of four words, byte by byte

sum-word : {a0 a1 a2 a3 b0 b1 b2 b3 c0 c1 c2 c3 d0 d1 d2 d3 : ℕ}
    → Column (a0 ∷ a1 ∷ a2 ∷ a3 ∷ []) → Column (b0 ∷ b1 ∷ b2 ∷ b3 ∷ []) → Column (c0 ∷ c1 ∷ c2 ∷ c3 ∷ []) → Column (d0 ∷ d1 ∷ d2 ∷ d3 ∷ [])
    → column_of (sum_of (word_of a0 a1 a2 a3) (word_of b0 b1 b2 b3) (word_of c0 c1 c2 c3) (word_of d0 d1 d2 d3))
    ≡ bit_xor a0 (bit_xor d1 (bit_xor c2 b3))
    ∷ bit_xor a1 (bit_xor d2 (bit_xor c3 b0))
    ∷ bit_xor a2 (bit_xor d3 (bit_xor c0 b1))
    ∷ bit_xor a3 (bit_xor d0 (bit_xor c1 b2))
    ∷ []
sum-word {a0} {a1} {a2} {a3} {b0} {b1} {b2} {b3} {c0} {c1} {c2} {c3} {d0} {d1} {d2} {d3}
    (column a0< a1< a2< a3<) (column b0< b1< b2< b3<) (column c0< c1< c2< c3<) (column d0< d1< d2< d3<) =
    let cb0 = xor_byte c0< b1< in
    let cb1 = xor_byte c1< b2< in
    let cb2 = xor_byte c2< b3< in
    let cb3 = xor_byte c3< b0< in
    let e1 = xor_byte d0< cb1 in
    let e2 = xor_byte d1< cb2 in
    let e3 = xor_byte d2< cb3 in
    let e0 = xor_byte d3< cb0 in
    let p : turned (bit_xor (word_of c0 c1 c2 c3) (turned (word_of b0 b1 b2 b3))) ≡ word_of (bit_xor c1 b2) (bit_xor c2 b3) (bit_xor c3 b0) (bit_xor c0 b1)
    = ap turned (ap (bit_xor (word_of c0 c1 c2 c3)) (turn_word b0 b1 b2 b3 b0< b1< b2< b3<) ∙ xor_word c0 c1 c2 c3 b1 b2 b3 b0 c0< c1< c2< b1< b2< b3<)
    ∙ turn_word _ _ _ _ cb0 cb1 cb2 cb3 in
    let q : turned (bit_xor (word_of d0 d1 d2 d3) (turned (bit_xor (word_of c0 c1 c2 c3) (turned (word_of b0 b1 b2 b3)))))
    ≡ word_of (bit_xor d1 (bit_xor c2 b3)) (bit_xor d2 (bit_xor c3 b0)) (bit_xor d3 (bit_xor c0 b1)) (bit_xor d0 (bit_xor c1 b2))
    = ap turned (ap (bit_xor (word_of d0 d1 d2 d3)) p ∙ xor_word d0 d1 d2 d3 _ _ _ _ d0< d1< d2< cb1 cb2 cb3) ∙ turn_word _ _ _ _ e1 e2 e3 e0 in
    ap column_of (ap (bit_xor (word_of a0 a1 a2 a3)) q ∙ xor_word a0 a1 a2 a3 _ _ _ _ a0< a1< a2< e2 e3 e0)
    ∙ column-word _ _ _ _ (xor_byte a0< e2) (xor_byte a1< e3) (xor_byte a2< e0) (xor_byte a3< e1)

-- ---- a sum of four, in the order in which each row of equations 5.6 and 5.10 has it

module _ (x y z w : ℕ) where
  row0 : bit_xor x (bit_xor y (bit_xor z w)) ≡ bit_xor (bit_xor x w) (bit_xor z y)
  row0 =
      sym (xor_assoc x y (bit_xor z w))
      ∙ ap (bit_xor (bit_xor x y)) (xor_comm z w)
      ∙ exchange bit_xor xor_comm xor_assoc x y w z
      ∙ ap (bit_xor (bit_xor x w)) (xor_comm y z)

  row3 : bit_xor x (bit_xor y (bit_xor z w)) ≡ bit_xor (bit_xor y x) (bit_xor w z)
  row3 = sym (xor_assoc x y (bit_xor z w)) ∙ ap₂ bit_xor (xor_comm x y) (xor_comm z w)

  row1 : bit_xor x (bit_xor y (bit_xor z w)) ≡ bit_xor (bit_xor w z) (bit_xor y x)
  row1 = row3 ∙ xor_comm (bit_xor y x) (bit_xor w z)

  row2 : bit_xor x (bit_xor y (bit_xor z w)) ≡ bit_xor (bit_xor z y) (bit_xor x w)
  row2 = row0 ∙ xor_comm (bit_xor x w) (bit_xor z y)

module _ (a b c d : ℕ) (ha : a < 256) (hb : b < 256) (hc : c < 256) (hd : d < 256) where
  mixed-sum : column_of (sum_of (mixed_word a) (mixed_word b) (mixed_word c) (mixed_word d)) ≡ mix_column (a ∷ b ∷ c ∷ d ∷ [])
  unfolding mix_column mix_byte
  mixed-sum =
      let w : (s : ℕ) → s < 256 → Column (mul s 2 ∷ s ∷ s ∷ mul s 3 ∷ []) = λ s h. column (mul_byte h 2) h h (mul_byte h 3) in
      sum-word (w a ha) (w b hb) (w c hc) (w d hd)
      ∙ four (row0 (mul a 2) d c (mul b 3)) (row1 a d (mul c 3) (mul b 2)) (row2 a (mul d 3) (mul c 2) b) (row3 (mul a 3) (mul d 2) c b)

  unmixed-sum : column_of (sum_of (unmixed_word a) (unmixed_word b) (unmixed_word c) (unmixed_word d)) ≡ inv_mix_column (a ∷ b ∷ c ∷ d ∷ [])
  unfolding inv_mix_column inv_mix_byte
  unmixed-sum =
      let w : (s : ℕ) → s < 256 → Column (mul s 0x0e ∷ mul s 0x09 ∷ mul s 0x0d ∷ mul s 0x0b ∷ [])
      = λ s h. column (mul_byte h 0x0e) (mul_byte h 0x09) (mul_byte h 0x0d) (mul_byte h 0x0b) in
      sum-word (w a ha) (w b hb) (w c hc) (w d hd) ∙ four
      (row0 (mul a 0x0e) (mul d 0x09) (mul c 0x0d) (mul b 0x0b))
      (row1 (mul a 0x09) (mul d 0x0d) (mul c 0x0b) (mul b 0x0e))
      (row2 (mul a 0x0d) (mul d 0x0b) (mul c 0x0e) (mul b 0x09))
      (row3 (mul a 0x0b) (mul d 0x0e) (mul c 0x09) (mul b 0x0d))

-- ---- the column of these sums, of a column w of bytes

module _ (w : List ℕ) (byte : (i : ℕ) → get_or w i 0 < 256) where
  pub mix_by : (v r : List ℕ) → v ≡ bytes (λ (b : ℕ). mixed_word (sbox_of b)) w → r ≡ sum_column v → r ≡ mix_column (bytes sbox_of w)
  mix_by v r e h =
      h
      ∙ ap sum_column e
      ∙ mixed-sum _ _ _ _ (sbox_of_byte _ (byte 0)) (sbox_of_byte _ (byte 1)) (sbox_of_byte _ (byte 2)) (sbox_of_byte _ (byte 3))

  pub inv_mix_by : (v r : List ℕ) → v ≡ bytes (λ (b : ℕ). unmixed_word (inv_sbox_of b)) w → r ≡ sum_column v → r ≡ inv_mix_column (bytes inv_sbox_of w)
  inv_mix_by v r e h =
      h
      ∙ ap sum_column e
      ∙ unmixed-sum _ _ _ _ (inv_sbox_of_byte _ (byte 0)) (inv_sbox_of_byte _ (byte 1)) (inv_sbox_of_byte _ (byte 2)) (inv_sbox_of_byte _ (byte 3))
