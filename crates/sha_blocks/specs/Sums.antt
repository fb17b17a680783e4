-- This serves contracts between crates only.
-- The sum of a hash value and the working variables (FIPS 180-4, 6.1.2 and 6.2.2, 4), for any number of words.
use Rattle.std.specs.Prelude.{List, [], ◌∷◌, ℕ, zero, suc, ◌+◌, ◌%◌, ◌^◌, slice_index}

-- n values of f, from f i on
unfoldable pub values : (ℕ → ℕ) → ℕ → ℕ → List ℕ
values f i zero = []
values f i (suc n) = f i ∷ values f (suc i) n

-- the sum modulo 2 ^ 32 of each of n words
abbrev pub sums : ℕ → List ℕ → List ℕ → List ℕ
sums n h s = values (λ (k : ℕ). (slice_index h k + slice_index s k) % 2 ^ 32) 0 n
