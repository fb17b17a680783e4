-- FIPS 197 section 3.4, the state, and the steps of a round: 5.1.1 to 5.1.4, and their inverses 5.3.1 to 5.3.3.
use Rattle.std.specs.Prelude.{List, [], ◌∷◌, ℕ, ◌<◌, get_or}
use Rattle.std.specs.Int.Bits.{bit_xor}
use Rattle.aes_sbox.specs.Field.{mul}
use Rattle.aes_sbox.specs.Sbox.{sbox_of, inv_sbox_of}

-- 3.5: the state as a list of its four columns, each a list of four bytes. s[r,c] of the document is the byte in row r of column c.
abbrev pub State : Type 0
State = List (List ℕ)

abbrev pub byte_at : State → ℕ → ℕ → ℕ
byte_at s r c = get_or (get_or s c []) r 0

-- A map of columns at each of the four columns.
abbrev pub columns : (List ℕ → List ℕ) → State → State
columns f s = f (get_or s 0 []) ∷ f (get_or s 1 []) ∷ f (get_or s 2 []) ∷ f (get_or s 3 []) ∷ []

-- A map of bytes at each of a column's four bytes.
abbrev pub bytes : (ℕ → ℕ) → List ℕ → List ℕ
bytes f w = f (get_or w 0 0) ∷ f (get_or w 1 0) ∷ f (get_or w 2 0) ∷ f (get_or w 3 0) ∷ []

-- 5.1.1, SubBytes, and 5.3.2, InvSubBytes.
unfoldable pub sub_bytes : State → State
sub_bytes s = columns (bytes sbox_of) s

unfoldable pub inv_sub_bytes : State → State
inv_sub_bytes s = columns (bytes inv_sbox_of) s

-- 5.1.2, ShiftRows: row r is shifted to the left by r places, s'[r,c] = s[r,(c + r) mod 4].
abbrev pub shift_rows : State → State
shift_rows s =
    (byte_at s 0 0 ∷ byte_at s 1 1 ∷ byte_at s 2 2 ∷ byte_at s 3 3 ∷ [])
    ∷ (byte_at s 0 1 ∷ byte_at s 1 2 ∷ byte_at s 2 3 ∷ byte_at s 3 0 ∷ [])
    ∷ (byte_at s 0 2 ∷ byte_at s 1 3 ∷ byte_at s 2 0 ∷ byte_at s 3 1 ∷ [])
    ∷ (byte_at s 0 3 ∷ byte_at s 1 0 ∷ byte_at s 2 1 ∷ byte_at s 3 2 ∷ [])
    ∷ []

-- 5.3.1, InvShiftRows: and to the right.
abbrev pub inv_shift_rows : State → State
inv_shift_rows s =
    (byte_at s 0 0 ∷ byte_at s 1 3 ∷ byte_at s 2 2 ∷ byte_at s 3 1 ∷ [])
    ∷ (byte_at s 0 1 ∷ byte_at s 1 0 ∷ byte_at s 2 3 ∷ byte_at s 3 2 ∷ [])
    ∷ (byte_at s 0 2 ∷ byte_at s 1 1 ∷ byte_at s 2 0 ∷ byte_at s 3 3 ∷ [])
    ∷ (byte_at s 0 3 ∷ byte_at s 1 2 ∷ byte_at s 2 1 ∷ byte_at s 3 0 ∷ [])
    ∷ []

-- 5.1.3, equation 5.6: a byte of the mixed column is {02}·a + {03}·b + c + d, where a is the byte in its own row, b, c and d those in the rows after it.
unfoldable pub mix_byte : ℕ → ℕ → ℕ → ℕ → ℕ
mix_byte a b c d = bit_xor (bit_xor (mul a 0x02) (mul b 0x03)) (bit_xor c d)

-- 5.3.3, equation 5.10: {0e}·a + {0b}·b + {0d}·c + {09}·d.
unfoldable pub inv_mix_byte : ℕ → ℕ → ℕ → ℕ → ℕ
inv_mix_byte a b c d = bit_xor (bit_xor (mul a 0x0e) (mul b 0x0b)) (bit_xor (mul c 0x0d) (mul d 0x09))

-- A column whose byte in row r is f of the bytes in the rows r, r + 1, r + 2 and r + 3, modulo 4.
abbrev pub each_row : (ℕ → ℕ → ℕ → ℕ → ℕ) → ℕ → ℕ → ℕ → ℕ → List ℕ
each_row f a b c d = f a b c d ∷ f b c d a ∷ f c d a b ∷ f d a b c ∷ []

unfoldable pub mix_column : List ℕ → List ℕ
mix_column w = each_row mix_byte (get_or w 0 0) (get_or w 1 0) (get_or w 2 0) (get_or w 3 0)

unfoldable pub inv_mix_column : List ℕ → List ℕ
inv_mix_column w = each_row inv_mix_byte (get_or w 0 0) (get_or w 1 0) (get_or w 2 0) (get_or w 3 0)

-- 5.1.3, MixColumns, and 5.3.3, InvMixColumns.
unfoldable pub mix_columns : State → State
mix_columns s = columns mix_column s

unfoldable pub inv_mix_columns : State → State
inv_mix_columns s = columns inv_mix_column s

-- 5.1.4, AddRoundKey: each column is added to the column of the round key.
abbrev pub add_column : List ℕ → List ℕ → List ℕ
add_column w k =
    bit_xor (get_or w 0 0) (get_or k 0 0)
    ∷ bit_xor (get_or w 1 0) (get_or k 1 0)
    ∷ bit_xor (get_or w 2 0) (get_or k 2 0)
    ∷ bit_xor (get_or w 3 0) (get_or k 3 0)
    ∷ []

unfoldable pub add_round_key : State → State → State
add_round_key s k =
    add_column (get_or s 0 []) (get_or k 0 [])
    ∷ add_column (get_or s 1 []) (get_or k 1 [])
    ∷ add_column (get_or s 2 []) (get_or k 2 [])
    ∷ add_column (get_or s 3 []) (get_or k 3 [])
    ∷ []

-- What the laws ask of a state: four columns of four bytes. A value of the code's type [[u8; 4]; 4] is one.
pub data Column : List ℕ → Type 0 where
  column : {a b c d : ℕ} → a < 256 → b < 256 → c < 256 → d < 256 → Column (a ∷ b ∷ c ∷ d ∷ [])

pub data Block : State → Type 0 where
  block : {w x y z : List ℕ} → Column w → Column x → Column y → Column z → Block (w ∷ x ∷ y ∷ z ∷ [])
