-- A table of slots (document 02, requests 12 and 13), whatever a slot holds, and how a word tells which slots are taken. Slots are counted from 0, and
-- slot 0 is the word's lowest bit.
use Rattle.std.specs.Prelude.{ℕ, zero, suc, ◌+◌, ◌*◌, ◌/◌, ◌%◌, Bool, true, false, cond, List, [], ◌∷◌, get_or}

-- a slot is free or holds something
pub data Slot (X : Type 0) : Type 0 where
  free : Slot X
  holding : X → Slot X

module _ {X : Type 0} where
  -- the number of the lowest free slot; where none is free, the count of all
  unfoldable pub lowest_free : List (Slot X) → ℕ
  lowest_free [] = 0
  lowest_free (free ∷ slots) = 0
  lowest_free (holding x ∷ slots) = suc (lowest_free slots)

  -- how many slots are taken
  unfoldable pub live_slot_count : List (Slot X) → ℕ
  live_slot_count [] = 0
  live_slot_count (free ∷ slots) = live_slot_count slots
  live_slot_count (holding x ∷ slots) = suc (live_slot_count slots)

  abbrev pub is_holding : Slot X → Bool
  is_holding free = false
  is_holding (holding x) = true

  -- whether a number is a live slot's: there is such a slot, and it holds something
  abbrev pub is_live : List (Slot X) → ℕ → Bool
  is_live t n = is_holding (get_or t n free)

  -- a slot by its bit, 1 for taken, and by what stands there, which counts only then
  abbrev pub slot_of : ℕ → X → Slot X
  slot_of zero x = free
  slot_of (suc d) x = holding x

  -- the slots of a word of taken ones, and of what stands in each
  unfoldable pub slots_from : ℕ → List X → List (Slot X)
  slots_from taken [] = []
  slots_from taken (x ∷ held) = slot_of (taken % 2) x ∷ slots_from (taken / 2) held

  -- the slots from number `at` on, with those freed that go
  unfoldable pub freed : (ℕ → Bool) → ℕ → List (Slot X) → List (Slot X)
  freed goes at [] = []
  freed goes at (s ∷ slots) = cond (goes at) free s ∷ freed goes (suc at) slots

-- how many of n slots from number `at` on go, and the word that has their bits set
abbrev pub bit : Bool → ℕ
bit true = 1
bit false = 0

unfoldable pub count_gone : (ℕ → Bool) → ℕ → ℕ → ℕ
count_gone goes at zero = 0
count_gone goes at (suc n) = bit (goes at) + count_gone goes (suc at) n

unfoldable pub word_gone : (ℕ → Bool) → ℕ → ℕ → ℕ
word_gone goes at zero = 0
word_gone goes at (suc n) = word_gone goes (suc at) n * 2 + bit (goes at)
