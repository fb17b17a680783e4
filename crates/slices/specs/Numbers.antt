-- Numbers as bytes, high byte first, as the standards and document 01 write them (FIPS 180-4, section 3.1; document 01, "Usage keys", "Key attribute").
use Rattle.std.specs.Prelude.{ℕ, ◌+◌, ◌*◌, ◌/◌, ◌%◌, ◌^◌, List, [], ◌∷◌, ◌++◌, get_or}

-- the two, four and eight low bytes of a number
abbrev pub be16 : ℕ → List ℕ
be16 x = x / 2 ^ 8 % 256 ∷ x % 256 ∷ []

abbrev pub be32 : ℕ → List ℕ
be32 x = x / 2 ^ 24 % 256 ∷ x / 2 ^ 16 % 256 ∷ x / 2 ^ 8 % 256 ∷ x % 256 ∷ []

abbrev pub be64 : ℕ → List ℕ
be64 x = be32 (x / 2 ^ 32) ++ be32 (x % 2 ^ 32)

-- the number that two bytes hold, and four
abbrev pub from_be16 : ℕ → ℕ → ℕ
from_be16 a b = a * 2 ^ 8 + b

abbrev pub from_be32 : ℕ → ℕ → ℕ → ℕ → ℕ
from_be32 a b c d = a * 2 ^ 24 + b * 2 ^ 16 + c * 2 ^ 8 + d

-- the number that a byte string holds from byte i on, in two bytes and in four
abbrev pub be16_at : List ℕ → ℕ → ℕ
be16_at s i = from_be16 (get_or s i 0) (get_or s (i + 1) 0)

abbrev pub be32_at : List ℕ → ℕ → ℕ
be32_at s i = from_be32 (get_or s i 0) (get_or s (i + 1) 0) (get_or s (i + 2) 0) (get_or s (i + 3) 0)
