-- FIPS 197 section 5.2: the key expansion for a key of 128 bits (Nk = 4). The words w[4n] to w[4n + 3] of the document are the columns of round key n.
use Rattle.std.specs.Prelude.{List, [], ◌∷◌, ℕ, zero, suc, get_or}
use Rattle.std.specs.Int.Bits.{bit_xor}
use Rattle.aes_sbox.specs.Field.{xtime}
use Rattle.aes_sbox.specs.Sbox.{sbox_of}
use Rattle.fips197.specs.State.{State, bytes, add_column}

-- The first byte of Rcon[n + 1], {02} to the power n. The other three are zero.
unfoldable pub rcon : ℕ → ℕ
rcon zero = 1
rcon (suc n) = xtime (rcon n)

abbrev pub rot_word : List ℕ → List ℕ
rot_word w = get_or w 1 0 ∷ get_or w 2 0 ∷ get_or w 3 0 ∷ get_or w 0 0 ∷ []

abbrev pub sub_word : List ℕ → List ℕ
sub_word w = bytes sbox_of w

-- SubWord(RotWord(w)), with r added to its first byte.
unfoldable pub key_core : List ℕ → ℕ → List ℕ
key_core w r =
    let t : List ℕ = sub_word (rot_word w) in
    bit_xor (get_or t 0 0) r ∷ get_or t 1 0 ∷ get_or t 2 0 ∷ get_or t 3 0 ∷ []

-- The round key after k, with the round constant r: w[i] = w[i - 4] + w[i - 1], and where i is a multiple of 4, SubWord(RotWord(w[i - 1])) + Rcon[i / 4] in
-- place of w[i - 1].
unfoldable pub next_key : State → ℕ → State
next_key k r =
    let w0 : List ℕ = add_column (get_or k 0 []) (key_core (get_or k 3 []) r) in
    let w1 : List ℕ = add_column (get_or k 1 []) w0 in
    let w2 : List ℕ = add_column (get_or k 2 []) w1 in
    let w3 : List ℕ = add_column (get_or k 3 []) w2 in
    w0 ∷ w1 ∷ w2 ∷ w3 ∷ []

-- Round key n of the key k.
unfoldable pub round_key : State → ℕ → State
round_key k zero = k
round_key k (suc n) = next_key (round_key k n) (rcon n)

-- The eleven round keys.
unfoldable pub expand_key : State → List State
expand_key k =
    round_key k 0
    ∷ round_key k 1
    ∷ round_key k 2
    ∷ round_key k 3
    ∷ round_key k 4
    ∷ round_key k 5
    ∷ round_key k 6
    ∷ round_key k 7
    ∷ round_key k 8
    ∷ round_key k 9
    ∷ round_key k 10
    ∷ []
