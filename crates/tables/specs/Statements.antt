-- The two laws of this crate. Nothing here is of a standard.
use Rattle.std.specs.Prelude.{◌≡◌, List, ℕ, ◌+◌, ◌<◌, ◌≤◌, length, get_or, set}
use Rattle.tables.specs.Table.{NoneBelow}

-- A number that is none of those below n is past the end of a table of at most n entries: a look-up there gives 0.
abbrev pub BeyondEnd : Type 0
BeyondEnd = (n x : ℕ) (l : List ℕ) → length l ≤ n → NoneBelow n x → 0 ≡ get_or l x 0

-- An array that a loop fills from its start: what holds of each entry below i, and of the one that is stored at i, holds of each below
-- i + 1.
abbrev pub Filled : Type 1
Filled =
    (A : Type 0) (P : ℕ → A → Type 0) (l : List A) (i : ℕ) (x d : A)
    → i < length l → P i x → ((k : ℕ) → k < i → P k (get_or l k d)) → (k : ℕ) → k < i + 1 → P k (get_or (set l i x) k d)
