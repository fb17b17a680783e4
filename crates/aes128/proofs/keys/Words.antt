-- Doubling a word doubles each of its bytes, and so the column that the code mixes as one word is the mixed column of FIPS 197.
use mathlib.Core.Path.{◌≡◌, ap, ap₂, ◌∙◌}
use mathlib.Core.List.{List}
use Prim.Native.Nat.{ℕ, ◌+◌, ◌*◌, ◌/◌, ◌%◌, ◌<◌}
use native.Mathlib.Omega.{arith}
use lib.Bits.{bit_and, bit_xor, and_mask}
use lib.ListN.{get_or}
use Rattle.aes_sbox.specs.Field.{xtime}
use Rattle.fips197.specs.State.{Column, column, bytes, each_row, mix_byte, inv_mix_byte, mix_column, inv_mix_column}
use Rattle.fips197.proofs.Four.{four}
use Rattle.fips197.proofs.Mix.{by4, one_doubling, premix}
use Rattle.fips197.proofs.Steps.{xor_byte, xtime_byte}
use Rattle.aes128.specs.Internal.{word_of, column_of, turned, doubled}
use Rattle.aes128.proofs.columns.Words.{word≡, xor_word, and_word, turn_word, column-word, word_bytes}

-- ---- a word times a number, and a word shifted by one bit to the left, with a bit a from below

times_2 : (a b c d : ℕ) → word_of a b c d * 2 ≡ word_of (a * 2) (b * 2) (c * 2) (d * 2)
times_2 a b c d = omega arith

times_27 : (a b c d : ℕ) → word_of a b c d * 0x1b ≡ word_of (a * 0x1b) (b * 0x1b) (c * 0x1b) (d * 0x1b)
times_27 a b c d = omega arith

shifted : (a b c d bl bh cl ch dl dh : ℕ) → b * 2 ≡ bl + bh * 256 → c * 2 ≡ cl + ch * 256 → d * 2 ≡ dl + dh * 256
    → ((d * 256 + c) * 256 + b) * 2 + a ≡ word_of (bl + a) (cl + bh) (dl + ch) dh
shifted a b c d bl bh cl ch dl dh eb ec ed = omega arith

seven_bits : (a : ℕ) → a % 128 * 2 ≡ a * 2 % 256
seven_bits a = omega arith

two-parts : (b : ℕ) → b < 256 → b * 2 ≡ b % 128 * 2 + b / 128 * 256
two-parts b h = omega arith

even_sum : (x y : ℕ) → (x * 2 + y) % 2 ≡ y % 2
even_sum x y = omega arith

digit_lt : (b a : ℕ) → a < 256 → b % 128 * 2 + a / 128 < 256
digit_lt b a h = omega arith

digit_bit : (b a : ℕ) → bit_and (b % 128 * 2 + a / 128) 1 ≡ a / 128 % 2
digit_bit b a = and_mask (b % 128 * 2 + a / 128) 1 ∙ even_sum (b % 128) (a / 128)

by_128 : (y a : ℕ) → (y * 256 + a) / 128 ≡ y * 2 + a / 128
by_128 y a = omega arith

-- ---- the bits of each byte

module _ (a b c d : ℕ) (ha : a < 256) (hb : b < 256) (hc : c < 256) (hd : d < 256) where
  -- the seven low bits of each byte, shifted
  low_bits : bit_and (word_of a b c d) 0x7f7f7f7f * 2 ≡ word_of (a * 2 % 256) (b * 2 % 256) (c * 2 % 256) (d * 2 % 256)
  low_bits =
      ap (λ (x : ℕ). x * 2)
      (and_word a b c d 127 127 127 127 ha hb hc (omega arith) (omega arith) (omega arith)
      ∙ word≡ (and_mask a 7) (and_mask b 7) (and_mask c 7) (and_mask d 7))
      ∙ times_2 (a % 128) (b % 128) (c % 128) (d % 128)
      ∙ word≡ (seven_bits a) (seven_bits b) (seven_bits c) (seven_bits d)

  -- bit 7 of each byte
  high_bits : bit_and (word_of a b c d / 128) 0x01010101 ≡ word_of (a / 128 % 2) (b / 128 % 2) (c / 128 % 2) (d / 128 % 2)
  high_bits =
      ap (λ (x : ℕ). bit_and x 0x01010101)
      (by_128 ((d * 256 + c) * 256 + b) a
      ∙ shifted (a / 128) b c d (b % 128 * 2) (b / 128) (c % 128 * 2) (c / 128) (d % 128 * 2) (d / 128) (two-parts b hb) (two-parts c hc) (two-parts d hd))
      ∙ and_word (b % 128 * 2 + a / 128) (c % 128 * 2 + b / 128) (d % 128 * 2 + c / 128) (d / 128) 1 1 1 1
      (digit_lt b a ha) (digit_lt c b hb) (digit_lt d c hc) (omega arith) (omega arith) (omega arith)
      ∙ word≡ (digit_bit b a) (digit_bit c b) (digit_bit d c) (and_mask (d / 128) 1)

  double-word : doubled (word_of a b c d) ≡ word_of (xtime a) (xtime b) (xtime c) (xtime d)
  unfolding xtime
  double-word =
      ap₂ bit_xor low_bits (ap (λ (x : ℕ). x * 0x1b) high_bits ∙ times_27 (a / 128 % 2) (b / 128 % 2) (c / 128 % 2) (d / 128 % 2))
      ∙ xor_word (a * 2 % 256) (b * 2 % 256) (c * 2 % 256) (d * 2 % 256) (a / 128 % 2 * 0x1b) (b / 128 % 2 * 0x1b) (c / 128 % 2 * 0x1b) (d / 128 % 2 * 0x1b)
      (omega arith) (omega arith) (omega arith) (omega arith) (omega arith) (omega arith)

-- ---- the column mixed as one word

turn_twice : (a b c d : ℕ) → a < 256 → b < 256 → c < 256 → d < 256 → turned (turned (word_of a b c d)) ≡ word_of c d a b
turn_twice a b c d ha hb hc hd = ap turned (turn_word a b c d ha hb hc hd) ∙ turn_word b c d a hb hc hd ha

module _ (a b c d : ℕ) (ha : a < 256) (hb : b < 256) (hc : c < 256) (hd : d < 256) where
  mixed-word : (x t y u v : ℕ) → x ≡ word_of a b c d → t ≡ turned x → y ≡ bit_xor x t → u ≡ doubled y → v ≡ turned (turned y)
      → column_of (bit_xor (bit_xor u t) v) ≡ each_row mix_byte a b c d
  mixed-word x t y u v ex et ey eu ev =
      let ab = xor_byte ha hb in
      let bc = xor_byte hb hc in
      let cd = xor_byte hc hd in
      let da = xor_byte hd ha in
      let xt = xtime_byte in
      let t' : t ≡ word_of b c d a = et ∙ ap turned ex ∙ turn_word a b c d ha hb hc hd in
      let y' : y ≡ word_of (bit_xor a b) (bit_xor b c) (bit_xor c d) (bit_xor d a) = ey ∙ ap₂ bit_xor ex t' ∙ xor_word a b c d b c d a ha hb hc hb hc hd in
      let u' : u ≡ word_of (xtime (bit_xor a b)) (xtime (bit_xor b c)) (xtime (bit_xor c d)) (xtime (bit_xor d a)) = eu ∙ ap doubled y' ∙ double-word _ _ _ _ ab bc cd da in
      let v' : v ≡ word_of (bit_xor c d) (bit_xor d a) (bit_xor a b) (bit_xor b c) = ev ∙ ap (λ (z : ℕ). turned (turned z)) y' ∙ turn_twice _ _ _ _ ab bc cd da in
      ap column_of
      (ap₂ bit_xor (ap₂ bit_xor u' t' ∙ xor_word _ _ _ _ b c d a (xt _) (xt _) (xt _) hb hc hd) v'
      ∙ xor_word _ _ _ _ _ _ _ _ (xor_byte (xt _) hb) (xor_byte (xt _) hc) (xor_byte (xt _) hd) cd da ab)
      ∙ column-word _ _ _ _ (xor_byte (xor_byte (xt _) hb) cd) (xor_byte (xor_byte (xt _) hc) da) (xor_byte (xor_byte (xt _) hd) ab) (xor_byte (xor_byte (xt _) ha) bc)
      ∙ four (one_doubling a b c d) (one_doubling b c d a) (one_doubling c d a b) (one_doubling d a b c)

  premixed-word : (x v u w : ℕ) → x ≡ word_of a b c d → v ≡ turned (turned x) → u ≡ doubled (bit_xor x v) → w ≡ doubled u
      → mix_column (column_of (bit_xor x w)) ≡ each_row inv_mix_byte a b c d
  unfolding mix_column
  premixed-word x v u w ex ev eu ew =
      let ac = xor_byte ha hc in
      let bd = xor_byte hb hd in
      let ca = xor_byte hc ha in
      let db = xor_byte hd hb in
      let xt = xtime_byte in
      let v' : v ≡ word_of c d a b = ev ∙ ap (λ (z : ℕ). turned (turned z)) ex ∙ turn_twice a b c d ha hb hc hd in
      let u' : u ≡ word_of (xtime (bit_xor a c)) (xtime (bit_xor b d)) (xtime (bit_xor c a)) (xtime (bit_xor d b))
      = eu ∙ ap doubled (ap₂ bit_xor ex v' ∙ xor_word a b c d c d a b ha hb hc hc hd ha) ∙ double-word _ _ _ _ ac bd ca db in
      let w' : w ≡ word_of (by4 (bit_xor a c)) (by4 (bit_xor b d)) (by4 (bit_xor c a)) (by4 (bit_xor d b))
      = ew ∙ ap doubled u' ∙ double-word _ _ _ _ (xt _) (xt _) (xt _) (xt _) in
      ap (λ (l : List ℕ). each_row mix_byte (get_or l 0 0) (get_or l 1 0) (get_or l 2 0) (get_or l 3 0))
      (ap column_of (ap₂ bit_xor ex w' ∙ xor_word a b c d _ _ _ _ ha hb hc (xt _) (xt _) (xt _))
      ∙ column-word _ _ _ _ (xor_byte ha (xt _)) (xor_byte hb (xt _)) (xor_byte hc (xt _)) (xor_byte hd (xt _)))
      ∙ four (premix a b c d) (premix b c d a) (premix c d a b) (premix d a b c)

-- ---- the same of a column of which the code has the word

module _ (w : List ℕ) (x : ℕ) (ex : x ≡ word_of (get_or w 0 0) (get_or w 1 0) (get_or w 2 0) (get_or w 3 0)) (ec : column_of x ≡ bytes (λ (y : ℕ). y) w) where
  pub mix_by : (t y u p v : ℕ) (r : List ℕ) → t ≡ turned x → y ≡ bit_xor x t → u ≡ doubled y → p ≡ turned y → v ≡ turned p
      → r ≡ column_of (bit_xor (bit_xor u t) v) → r ≡ mix_column w
  unfolding mix_column
  mix_by t y u p v r et ey eu ep ev er = er ∙ go (word_bytes x w ec)
    where
      go : Column (bytes (λ (y : ℕ). y) w) → column_of (bit_xor (bit_xor u t) v) ≡ mix_column w
      go (column ha hb hc hd) = mixed-word _ _ _ _ ha hb hc hd x t y u v ex et ey eu (ev ∙ ap turned ep)

  pub premix_by : (p v u d : ℕ) (r : List ℕ) → p ≡ turned x → v ≡ turned p → u ≡ doubled (bit_xor x v) → d ≡ doubled u
      → r ≡ column_of (bit_xor x d) → mix_column r ≡ inv_mix_column w
  unfolding inv_mix_column
  premix_by p v u d r ep ev eu ed er = ap mix_column er ∙ go (word_bytes x w ec)
    where
      go : Column (bytes (λ (y : ℕ). y) w) → mix_column (column_of (bit_xor x d)) ≡ inv_mix_column w
      go (column ha hb hc hd) = premixed-word _ _ _ _ ha hb hc hd x v u d ex (ev ∙ ap turned ep) eu ed
