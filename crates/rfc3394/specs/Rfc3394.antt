-- RFC 3394, the key wrap, over any block cipher E with its inverse D, and then with AES-128. Bytes are numbers; a semiblock of the document, 64 bits, is eight
-- bytes. The wrapping and the unwrapping are those of sections 2.2.1 and 2.2.2 in their indexed form, with i counted from 0: the document's R[i + 1] is block i.
use Rattle.std.specs.Prelude.{List, [], ◌∷◌, ◌++◌, ℕ, zero, suc, ◌+◌, ◌*◌, ◌/◌, ◌%◌, ◌^◌, get_or, take, drop, length}
use Rattle.std.specs.Int.Bits.{bit_xor}
use Rattle.fips197.specs.State.{State, byte_at}
use Rattle.fips197.specs.Cipher.{cipher, inv_cipher}
use Rattle.fips197.specs.KeyExpansion.{expand_key}

-- A | R: sixteen bytes, eight of a and eight of r, as a state of the cipher (FIPS 197 section 3.4: column after column).
abbrev pub joined : List ℕ → List ℕ → State
joined a r =
    (get_or a 0 0 ∷ get_or a 1 0 ∷ get_or a 2 0 ∷ get_or a 3 0 ∷ [])
    ∷ (get_or a 4 0 ∷ get_or a 5 0 ∷ get_or a 6 0 ∷ get_or a 7 0 ∷ [])
    ∷ (get_or r 0 0 ∷ get_or r 1 0 ∷ get_or r 2 0 ∷ get_or r 3 0 ∷ [])
    ∷ (get_or r 4 0 ∷ get_or r 5 0 ∷ get_or r 6 0 ∷ get_or r 7 0 ∷ [])
    ∷ []

-- MSB(64, B) and LSB(64, B): the bytes of the first two columns, and of the last two.
abbrev pub high : State → List ℕ
high s =
    byte_at s 0 0
    ∷ byte_at s 1 0
    ∷ byte_at s 2 0
    ∷ byte_at s 3 0
    ∷ byte_at s 0 1
    ∷ byte_at s 1 1
    ∷ byte_at s 2 1
    ∷ byte_at s 3 1
    ∷ []

abbrev pub low : State → List ℕ
low s =
    byte_at s 0 2
    ∷ byte_at s 1 2
    ∷ byte_at s 2 2
    ∷ byte_at s 3 2
    ∷ byte_at s 0 3
    ∷ byte_at s 1 3
    ∷ byte_at s 2 3
    ∷ byte_at s 3 3
    ∷ []

-- A ^ t: t is taken as 64 bits, high byte first.
unfoldable pub add_count : ℕ → List ℕ → List ℕ
add_count t a =
    bit_xor (get_or a 0 0) (t / 2 ^ 56 % 256)
    ∷ bit_xor (get_or a 1 0) (t / 2 ^ 48 % 256)
    ∷ bit_xor (get_or a 2 0) (t / 2 ^ 40 % 256)
    ∷ bit_xor (get_or a 3 0) (t / 2 ^ 32 % 256)
    ∷ bit_xor (get_or a 4 0) (t / 2 ^ 24 % 256)
    ∷ bit_xor (get_or a 5 0) (t / 2 ^ 16 % 256)
    ∷ bit_xor (get_or a 6 0) (t / 2 ^ 8 % 256)
    ∷ bit_xor (get_or a 7 0) (t % 256)
    ∷ []

-- B with t added to its first half: the state (A ^ t) | R[i].
abbrev pub counted : ℕ → State → State
counted t b = joined (add_count t (high b)) (low b)

-- R[i + 1], and the blocks r with b in its place.
abbrev pub block_at : ℕ → List ℕ → List ℕ
block_at i r = take 8 (drop (i * 8) r)

abbrev pub with_block : ℕ → List ℕ → List ℕ → List ℕ
with_block i b r = take (i * 8) r ++ (b ++ drop 8 (drop (i * 8) r))

-- The variables of both algorithms: A, and the blocks R[1] to R[n] one after the other.
abbrev pub Registers : Type 0
Registers = List ℕ × List ℕ

-- 2.2.1, step 2, the inner body: B = AES(K, A | R[i]); A = MSB(64, B) ^ t; R[i] = LSB(64, B).
unfoldable pub wrap_step : (State → State) → ℕ → ℕ → Registers → Registers
wrap_step E t i x =
    let b : State = E (joined x.0 (block_at i x.1)) in
    (add_count t (high b), with_block i (low b) x.1)

-- 2.2.2, step 2, the inner body: B = AES-1(K, (A ^ t) | R[i]); A = MSB(64, B); R[i] = LSB(64, B).
unfoldable pub unwrap_step : (State → State) → ℕ → ℕ → Registers → Registers
unwrap_step D t i x =
    let b : State = D (joined (add_count t x.0) (block_at i x.1)) in
    (high b, with_block i (low b) x.1)

-- For i = 1 to m, with t = n * j + i, where c is n * j.
unfoldable pub wrap_pass : (State → State) → ℕ → ℕ → Registers → Registers
wrap_pass E c zero x = x
wrap_pass E c (suc m) x = wrap_step E (c + suc m) m (wrap_pass E c m x)

-- For i = m to 1.
unfoldable pub unwrap_pass : (State → State) → ℕ → ℕ → Registers → Registers
unwrap_pass D c zero x = x
unwrap_pass D c (suc m) x = unwrap_pass D c m (unwrap_step D (c + suc m) m x)

-- For j = 0 to k - 1, over n blocks. The document has k = 6.
unfoldable pub wrap_passes : (State → State) → ℕ → ℕ → Registers → Registers
wrap_passes E n zero x = x
wrap_passes E n (suc j) x = wrap_pass E (n * j) n (wrap_passes E n j x)

-- For j = k - 1 to 0.
unfoldable pub unwrap_passes : (State → State) → ℕ → ℕ → Registers → Registers
unwrap_passes D n zero x = x
unwrap_passes D n (suc j) x = unwrap_passes D n j (unwrap_pass D (n * j) n x)

-- 2.2.3.1: the default initial value, A6 eight times.
abbrev pub initial_value : List ℕ
initial_value = 0xa6 ∷ 0xa6 ∷ 0xa6 ∷ 0xa6 ∷ 0xa6 ∷ 0xa6 ∷ 0xa6 ∷ 0xa6 ∷ []

-- The key encryption key of 16 bytes as a state, and its round keys.
abbrev pub key_state : List ℕ → State
key_state kek =
    (get_or kek 0 0 ∷ get_or kek 1 0 ∷ get_or kek 2 0 ∷ get_or kek 3 0 ∷ [])
    ∷ (get_or kek 4 0 ∷ get_or kek 5 0 ∷ get_or kek 6 0 ∷ get_or kek 7 0 ∷ [])
    ∷ (get_or kek 8 0 ∷ get_or kek 9 0 ∷ get_or kek 10 0 ∷ get_or kek 11 0 ∷ [])
    ∷ (get_or kek 12 0 ∷ get_or kek 13 0 ∷ get_or kek 14 0 ∷ get_or kek 15 0 ∷ [])
    ∷ []

unfoldable pub round_keys : List ℕ → List State
round_keys kek = expand_key (key_state kek)

-- 2.2.1, with AES-128: from A = the initial value and the key, six passes over its blocks of eight bytes. The wrapped key is C[0] = A and then the blocks.
unfoldable pub wrap_registers : List ℕ → List ℕ → Registers
wrap_registers kek key = wrap_passes (cipher (round_keys kek)) (length key / 8) 6 (initial_value, key)

unfoldable pub wrapped : List ℕ → List ℕ → List ℕ
wrapped kek key = (wrap_registers kek key).0 ++ (wrap_registers kek key).1

-- 2.2.2, with AES-128: from A = C[0] and the blocks after it, six passes back. The eight bytes that must be the initial value, and the key.
unfoldable pub unwrap_registers : List ℕ → List ℕ → Registers
unwrap_registers kek bytes = unwrap_passes (inv_cipher (round_keys kek)) (length (drop 8 bytes) / 8) 6 (take 8 bytes, drop 8 bytes)

unfoldable pub unwrapped_iv : List ℕ → List ℕ → List ℕ
unwrapped_iv kek bytes = (unwrap_registers kek bytes).0

unfoldable pub unwrapped_key : List ℕ → List ℕ → List ℕ
unwrapped_key kek bytes = (unwrap_registers kek bytes).1
