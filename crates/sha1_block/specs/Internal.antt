-- What only the contracts of private functions need. Nothing here has to be believed.
-- The working variables of SHA-1 (FIPS 180-4, 6.1.2) as the code keeps them, a round by its function and its constant, and rounds of one kind.
use Rattle.std.specs.Prelude.{◌≡◌, ℕ, zero, suc, ◌+◌, ◌<◌, List, [], ◌∷◌, slice_index, refl}
use Rattle.fips180.specs.Words.{ROTL}
use Rattle.fips180.specs.Sha1.{step, rounds, compress}
use Rattle.fips180.specs.Sha1 as Sha1
use Rattle.fips180.specs.Statements.{Has}
use Rattle.sha_blocks.specs.Sums.{values, sums}

-- a b c d e, from the last five values of a: c, d and e are those of two, three and four rounds before, rotated. The code leaves the
-- rotation to each use, where a Cortex-M4 has it for nothing.
unfoldable pub variables : List ℕ → List ℕ
variables s = slice_index s 0 ∷ slice_index s 1 ∷ ROTL 30 (slice_index s 2) ∷ ROTL 30 (slice_index s 3) ∷ ROTL 30 (slice_index s 4) ∷ []

-- a round by a function, a constant and a word of the schedule
unfoldable pub step_by : (ℕ → ℕ → ℕ → ℕ) → ℕ → ℕ → List ℕ → List ℕ
step_by f k w s = step (f (slice_index s 1) (slice_index s 2) (slice_index s 3)) k w s

-- n rounds of one function and one constant with the words of w from place j on
unfoldable pub runs : (ℕ → ℕ → ℕ → ℕ) → ℕ → List ℕ → ℕ → List ℕ → ℕ → List ℕ
runs f k w j s zero = s
runs f k w j s (suc n) = step_by f k (slice_index w (j + n)) (runs f k w j s n)

-- the four rounds from round t on have this function and this constant
abbrev pub Four : (ℕ → ℕ → ℕ → ℕ) → ℕ → ℕ → Type 0
Four f k t = (i : ℕ) → i < 4 → Has f k (t + i)

-- 6.1.2, 3: the working variables after all rounds
abbrev pub after_rounds : List ℕ → List ℕ → List ℕ
after_rounds h b = rounds h b 80

-- 6.1.2, 4: their sum with the hash value
pub summed : (h b : List ℕ) → sums 5 h (after_rounds h b) ≡ compress h b
unfolding values compress Sha1.sums
summed h b = refl
