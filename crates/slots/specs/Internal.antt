-- What only the contracts of private functions need. Nothing here has to be believed.
-- Bits of the word of taken slots, and steps as the code makes them, on that word and the bytes of the parents.
use Rattle.std.specs.Prelude.{ℕ, ◌/◌, ◌%◌, ◌^◌, ◌≡◌, Bool, cond, ◌&&◌, ◌||◌, false, List, ltb, eqb, get_or, Option, Some, None}
use Rattle.slot_rules.specs.declared.Slots.{Slots}
use Rattle.slot_rules.specs.Stored.{parent_of}

-- whether bit n of a word of 64 is set
abbrev pub has_bit : ℕ → ℕ → Bool
has_bit w n = ltb n 64 && eqb (w / 2 ^ n % 2) 1

-- the byte of a live slot's parent; 255 where the slot is not live
unfoldable pub step_from : ℕ → List ℕ → ℕ → ℕ
step_from w parents s = cond (has_bit w s) (get_or parents s 0) 255

-- one step up from a place, and whether it is a live slot that has no parent
abbrev pub up_in : Slots → Option ℕ → Option ℕ
up_in s None = None
up_in s (Some n) = cond (has_bit s.taken n) (parent_of (get_or s.parents n 0)) None

abbrev pub root_in : Slots → Option ℕ → Bool
root_in s None = false
root_in s (Some n) = has_bit s.taken n && eqb (get_or s.parents n 0) 255

-- whether no step, one or two from a place come to a root
unfoldable pub root_within_two_in : Slots → Option ℕ → Bool
root_within_two_in s x = root_in s x || (root_in s (up_in s x) || root_in s (up_in s (up_in s x)))

-- the same byte, read in a list of 64
abbrev pub step_in : List ℕ → ℕ → ℕ
step_in steps s = cond (ltb s 64) (get_or steps s 0) 255

-- a list that has the step of every number
abbrev pub HasSteps : List ℕ → ℕ → List ℕ → Type 0
HasSteps steps w parents = (j : ℕ) → step_in steps j ≡ step_from w parents j

-- whether no step, one, two or three from slot s come to slot n
unfoldable pub reaches_by : (ℕ → ℕ) → ℕ → ℕ → Bool
reaches_by g n s = eqb s n || (eqb (g s) n || (eqb (g (g s)) n || eqb (g (g (g s))) n))
