-- FIPS 180-4 (Secure Hash Standard): what it says of words for SHA-1 and SHA-256 alike, with its section numbers.
-- A word is a number below 2 ^ 32 and a byte one below 256.
use Rattle.std.specs.Prelude.{List, ℕ, ◌-◌, ◌*◌, ◌/◌, ◌%◌, ◌^◌}
use Rattle.std.specs.Int.Bits.{bit_and, bit_or, bit_xor}
use Rattle.slices.specs.Numbers.{be32_at}

-- 3.2, operation 3: the right shift of a word by n bits
abbrev pub SHR : ℕ → ℕ → ℕ
SHR n x = x / 2 ^ n

-- 3.2, operation 4: the rotation of a word to the right by n bits, (x >> n) ∨ (x << 32 - n)
abbrev pub ROTR : ℕ → ℕ → ℕ
ROTR n x = bit_or (x / 2 ^ n) (x * 2 ^ (32 - n) % 2 ^ 32)

-- 3.2, operation 5: the rotation of a word to the left by n bits, (x << n) ∨ (x >> 32 - n)
abbrev pub ROTL : ℕ → ℕ → ℕ
ROTL n x = bit_or (x * 2 ^ n % 2 ^ 32) (x / 2 ^ (32 - n))

-- 4.1.1 and 4.1.2: the functions Ch and Maj. The complement of a word x is 2 ^ 32 - 1 - x
abbrev pub Ch : ℕ → ℕ → ℕ → ℕ
Ch x y z = bit_xor (bit_and x y) (bit_and (2 ^ 32 - 1 - x) z)

abbrev pub Maj : ℕ → ℕ → ℕ → ℕ
Maj x y z = bit_xor (bit_xor (bit_and x y) (bit_and x z)) (bit_and y z)

-- 5.2.1: word t of a block, high byte first (3.1)
abbrev pub word : List ℕ → ℕ → ℕ
word b t = be32_at b (4 * t)
