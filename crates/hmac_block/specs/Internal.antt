-- What only the contracts of private functions need. Nothing here has to be believed.
-- Four bytes of a block masked.
use Rattle.std.specs.Prelude.{List, ℕ, ◌+◌, get_or, set}
use Rattle.std.specs.Int.Bits.{bit_xor}

-- a byte of a list masked
abbrev pub byte_masked : List ℕ → ℕ → ℕ → ℕ
byte_masked b pad i = bit_xor (get_or b i 0) pad

-- the four bytes from index i on masked
abbrev pub word_masked : List ℕ → ℕ → ℕ → List ℕ
word_masked b i pad =
    set (set (set (set b i (byte_masked b pad i)) (i + 1) (byte_masked b pad (i + 1))) (i + 2) (byte_masked b pad (i + 2))) (i + 3) (byte_masked b pad (i + 3))
