-- Each step of a round keeps a state of sixteen bytes one, and the steps undo each other, both ways.
use mathlib.Core.Path.{◌≡◌, refl}
use mathlib.Core.List.{List}
use Prim.Native.Nat.{ℕ, zero, suc, ◌*◌, ◌/◌, ◌%◌, ◌<◌}
use native.Mathlib.Omega.{arith}
use lib.Bits.{bit_xor, xor_lt}
use Rattle.aes_sbox.specs.Field.{xtime, mul_bits, mul}
use Rattle.aes_sbox.specs.Sbox.{sbox_of, inv_sbox_of}
use Rattle.fips197.specs.State.{State, Column, column, Block, block, columns, bytes, sub_bytes, inv_sub_bytes, shift_rows, inv_shift_rows, mix_byte, inv_mix_byte, mix_column, inv_mix_column, mix_columns, inv_mix_columns, add_column, add_round_key}
use Rattle.fips197.proofs.Four.{four}
use Rattle.fips197.proofs.Mix.{mix_byte_lem, unmix_byte}
use Rattle.aes_sbox.proofs.Tables.{sbox_of_byte, inv_sbox_of_byte, sbox_undone}
use Rattle.fips197.proofs.Xor.{bit, mod2_lt, xor_cancel}

-- ---- bytes stay bytes

pub xor_byte : {a b : ℕ} → a < 256 → b < 256 → bit_xor a b < 256
xor_byte {a} {b} ha hb = xor_lt 8 a b ha hb

pub xtime_byte : (a : ℕ) → xtime a < 256
unfolding xtime
xtime_byte a = xor_lt 8 (a * 2 % 256) (a / 128 % 2 * 0x1b) (omega arith) (omega arith)

mul_bits_byte : (n : ℕ) {a : ℕ} → a < 256 → (b : ℕ) → mul_bits n a b < 256
unfolding mul_bits
mul_bits_byte zero h b = omega arith
mul_bits_byte (suc n) {a} h b =
    xor_byte (bit (λ (x : ℕ). x * a < 256) (omega arith) (omega arith) (b % 2) (mod2_lt b)) (mul_bits_byte n (xtime_byte a) (b / 2))

pub mul_byte : {a : ℕ} → a < 256 → (b : ℕ) → mul a b < 256
unfolding mul
mul_byte h b = mul_bits_byte 8 h b

mix_byte_byte : {a b c d : ℕ} → a < 256 → b < 256 → c < 256 → d < 256 → mix_byte a b c d < 256
unfolding mix_byte
mix_byte_byte {a} {b} {c} {d} ha hb hc hd = xor_byte (xor_byte (mul_byte ha 2) (mul_byte hb 3)) (xor_byte hc hd)

inv_mix_byte_byte : {a b c d : ℕ} → a < 256 → b < 256 → c < 256 → d < 256 → inv_mix_byte a b c d < 256
unfolding inv_mix_byte
inv_mix_byte_byte ha hb hc hd = xor_byte (xor_byte (mul_byte ha 0x0e) (mul_byte hb 0x0b)) (xor_byte (mul_byte hc 0x0d) (mul_byte hd 0x09))

-- ---- a step that works on each column

module _ (f : List ℕ → List ℕ) (keeps : (w : List ℕ) → Column w → Column (f w)) where
  columns-block : {s : State} → Block s → Block (columns f s)
  columns-block (block p q r t) = block (keeps _ p) (keeps _ q) (keeps _ r) (keeps _ t)

columns_undo : (f g : List ℕ → List ℕ) → ((w : List ℕ) → Column w → g (f w) ≡ w)
    → (s : State) → Block s → columns g (columns f s) ≡ s
columns_undo f g e s (block p q r t) = four (e _ p) (e _ q) (e _ r) (e _ t)

bytes-column : (f : ℕ → ℕ) → ((a : ℕ) → a < 256 → f a < 256) → (w : List ℕ) → Column w → Column (bytes f w)
bytes-column f h w (column a b c d) = column (h _ a) (h _ b) (h _ c) (h _ d)

bytes_undo : (f g : ℕ → ℕ) → ((a : ℕ) → a < 256 → g (f a) ≡ a) → (w : List ℕ) → Column w → bytes g (bytes f w) ≡ w
bytes_undo f g e w (column a b c d) = four (e _ a) (e _ b) (e _ c) (e _ d)

-- ---- the substitution

pub sub_bytes-block : {s : State} → Block s → Block (sub_bytes s)
unfolding sub_bytes
sub_bytes-block b = columns-block (bytes sbox_of) (bytes-column sbox_of sbox_of_byte) b

pub inv_sub_bytes-block : {s : State} → Block s → Block (inv_sub_bytes s)
unfolding inv_sub_bytes
inv_sub_bytes-block b = columns-block (bytes inv_sbox_of) (bytes-column inv_sbox_of inv_sbox_of_byte) b

pub unsub : {s : State} → Block s → inv_sub_bytes (sub_bytes s) ≡ s
unfolding sub_bytes inv_sub_bytes
unsub {s} b = columns_undo (bytes sbox_of) (bytes inv_sbox_of) (bytes_undo sbox_of inv_sbox_of (λ a h. (sbox_undone a h).0)) s b

pub resub : {s : State} → Block s → sub_bytes (inv_sub_bytes s) ≡ s
unfolding sub_bytes inv_sub_bytes
resub {s} b = columns_undo (bytes inv_sbox_of) (bytes sbox_of) (bytes_undo inv_sbox_of sbox_of (λ a h. (sbox_undone a h).1)) s b

-- ---- the rows

pub shift_rows-block : {s : State} → Block s → Block (shift_rows s)
shift_rows-block (block (column a b c d) (column e f g h) (column i j k l) (column m n o p)) =
    block (column a f k p) (column e j o d) (column i n c h) (column m b g l)

pub inv_shift_rows-block : {s : State} → Block s → Block (inv_shift_rows s)
inv_shift_rows-block (block (column a b c d) (column e f g h) (column i j k l) (column m n o p)) =
    block (column a n k h) (column e b o l) (column i f c p) (column m j g d)

pub unshift : {s : State} → Block s → inv_shift_rows (shift_rows s) ≡ s
unshift (block (column a b c d) (column e f g h) (column i j k l) (column m n o p)) = refl

pub reshift : {s : State} → Block s → shift_rows (inv_shift_rows s) ≡ s
reshift (block (column a b c d) (column e f g h) (column i j k l) (column m n o p)) = refl

-- ---- the columns

mix_column-column : (w : List ℕ) → Column w → Column (mix_column w)
unfolding mix_column
mix_column-column w (column a b c d) =
    column (mix_byte_byte a b c d) (mix_byte_byte b c d a) (mix_byte_byte c d a b) (mix_byte_byte d a b c)

inv_mix_column-column : (w : List ℕ) → Column w → Column (inv_mix_column w)
unfolding inv_mix_column
inv_mix_column-column w (column a b c d) =
    column (inv_mix_byte_byte a b c d) (inv_mix_byte_byte b c d a) (inv_mix_byte_byte c d a b) (inv_mix_byte_byte d a b c)

unmix_column : (w : List ℕ) → Column w → inv_mix_column (mix_column w) ≡ w
unfolding mix_column inv_mix_column
unmix_column w (column a b c d) =
    four (unmix_byte _ _ _ _ a b c d) (unmix_byte _ _ _ _ b c d a) (unmix_byte _ _ _ _ c d a b) (unmix_byte _ _ _ _ d a b c)

remix_column : (w : List ℕ) → Column w → mix_column (inv_mix_column w) ≡ w
unfolding mix_column inv_mix_column
remix_column w (column a b c d) =
    four (mix_byte_lem _ _ _ _ a b c d) (mix_byte_lem _ _ _ _ b c d a) (mix_byte_lem _ _ _ _ c d a b) (mix_byte_lem _ _ _ _ d a b c)

pub mix_columns-block : {s : State} → Block s → Block (mix_columns s)
unfolding mix_columns
mix_columns-block b = columns-block mix_column mix_column-column b

pub inv_mix_columns-block : {s : State} → Block s → Block (inv_mix_columns s)
unfolding inv_mix_columns
inv_mix_columns-block b = columns-block inv_mix_column inv_mix_column-column b

pub unmix : {s : State} → Block s → inv_mix_columns (mix_columns s) ≡ s
unfolding mix_columns inv_mix_columns
unmix {s} b = columns_undo mix_column inv_mix_column unmix_column s b

pub remix : {s : State} → Block s → mix_columns (inv_mix_columns s) ≡ s
unfolding mix_columns inv_mix_columns
remix {s} b = columns_undo inv_mix_column mix_column remix_column s b

-- ---- the round key

pub add_column-column : {w k : List ℕ} → Column w → Column k → Column (add_column w k)
add_column-column (column a b c d) (column e f g h) = column (xor_byte a e) (xor_byte b f) (xor_byte c g) (xor_byte d h)

add_column_twice : (w k : List ℕ) → Column w → Column k → add_column (add_column w k) k ≡ w
add_column_twice w k (column a b c d) (column e f g h) = four (xor_cancel _ _) (xor_cancel _ _) (xor_cancel _ _) (xor_cancel _ _)

pub add_round_key-block : {s k : State} → Block s → Block k → Block (add_round_key s k)
unfolding add_round_key
add_round_key-block (block p q r t) (block u v w x) =
    block (add_column-column p u) (add_column-column q v) (add_column-column r w) (add_column-column t x)

pub unadd : {s k : State} → Block s → Block k → add_round_key (add_round_key s k) k ≡ s
unfolding add_round_key
unadd (block p q r t) (block u v w x) =
    four (add_column_twice _ _ p u) (add_column_twice _ _ q v) (add_column_twice _ _ r w) (add_column_twice _ _ t x)
