-- What only the contracts of private functions need. Nothing here has to be believed.
-- The window of a schedule while it is refilled.
use Rattle.std.specs.Prelude.{◌≡◌, ℕ, ◌+◌, ◌%◌, ◌<◌, List, length, slice_index}

-- of the window f t .. f (t + 15), n words were replaced: each word of the schedule stands 16 places, round the window, before the one that replaces it
abbrev pub RingAt : (ℕ → ℕ) → ℕ → ℕ → List ℕ → Type 0
RingAt f t n w = (length w ≡ 16) × ((k : ℕ) → k < 16 → slice_index w ((n + k) % 16) ≡ f (t + (n + k)))
