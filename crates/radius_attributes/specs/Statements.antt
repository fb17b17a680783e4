-- What is proved of the split of bytes into attributes.
use Rattle.std.specs.Prelude.{ℕ, ◌≤◌, ◌≡◌, length, take, drop, get_or}
use mathlib.Core.List.{List, ◌∷◌, ◌++◌, flatten}
use Rattle.radius_attributes.specs.Attributes.{attribute_length, split}

-- put together again, they are the bytes
abbrev pub AllSplit : Type 0
AllSplit = (bytes : List ℕ) → flatten (split bytes) ≡ bytes

-- the first attribute is taken off, and then the rest is split
abbrev pub SplitNext : Type 0
SplitNext = (bytes : List ℕ) → 1 ≤ length bytes → split bytes ≡ take (attribute_length bytes) bytes ∷ split (drop (attribute_length bytes) bytes)

-- an attribute whose length byte counts its bytes is the first, whatever follows it
abbrev pub FirstSplit : Type 0
FirstSplit = (a rest : List ℕ) → 2 ≤ length a → get_or a 1 0 ≡ length a → split (a ++ rest) ≡ a ∷ split rest
