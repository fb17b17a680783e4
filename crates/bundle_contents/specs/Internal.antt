-- What only the contracts of private functions need. Nothing here has to be believed.
use Rattle.std.specs.Prelude.{ℕ, ◌+◌, ◌≤◌, ◌<◌, List, [], ◌∷◌, length, get_or}
use Rattle.slices.specs.Numbers.{from_be32}
use Rattle.bundle_rules.specs.Bundle.{Line}

-- four bytes from index i on, as one number
abbrev pub word_at : List ℕ → ℕ → ℕ
word_at s i = from_be32 (get_or s (i + 3) 0) (get_or s (i + 2) 0) (get_or s (i + 1) 0) (get_or s i 0)

-- they are bytes
abbrev pub BytesAt : List ℕ → ℕ → Type 0
BytesAt s i = (get_or s i 0 < 256) × (get_or s (i + 1) 0 < 256) × (get_or s (i + 2) 0 < 256) × (get_or s (i + 3) 0 < 256)

-- each body ends within the file, as the tests 40 and 41 show
pub data Inside (f : List ℕ) : List Line → Type 0 where
  none : Inside f []
  more : {l : Line} {lines : List Line} → l.offset + l.size ≤ length f → Inside f lines → Inside f (l ∷ lines)
