-- This serves contracts between crates only.
-- The window of a message schedule: the code of both hashes keeps sixteen words and writes the next sixteen over them. Nothing of it stands in
-- the standard.
use Rattle.std.specs.Prelude.{List, [], ◌∷◌, ℕ, ◌+◌}

-- sixteen words of a schedule, from word t on
unfoldable pub window : (ℕ → ℕ) → ℕ → List ℕ
window word t =
    word (t + 0) ∷ word (t + 1) ∷ word (t + 2) ∷ word (t + 3) ∷ word (t + 4) ∷ word (t + 5) ∷ word (t + 6) ∷ word (t + 7) ∷ word (t + 8) ∷ word (t + 9) ∷ word (t + 10) ∷ word (t + 11) ∷ word (t + 12) ∷ word (t + 13) ∷ word (t + 14) ∷ word (t + 15) ∷ []
