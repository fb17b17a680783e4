-- How `Slots` holds a table of slots, and what each call leaves in it, the names and parents of free slots included.
use Rattle.std.specs.Prelude.{ℕ, ◌-◌, ◌^◌, ◌<◌, ◌≡◌, cond, List, [], ◌∷◌, eqb, length, set, Some, None}
use Rattle.std.specs.Int.Bits.{bit_and, bit_or}
use Rattle.refusal.specs.Answers.{after_check}
use Rattle.slot_rules.specs.declared.Name.{Name}
use Rattle.slot_rules.specs.declared.Slots.{Slots}
use Rattle.slot_rules.specs.Table.{Slot, slots_from, lowest_free, word_gone}
use Rattle.slot_rules.specs.Parents.{Parent, Key, goes_with}
use Rattle.slot_rules.specs.Calls.{check47, put_check}

-- what holds of every `Slots` of the code and of C: a word of 64 bits, 64 names, 64 parents
pub record Fits (s : Slots) : Type 0 where
  pub bits : s.taken < 2 ^ 64
  pub names : length s.names ≡ 64
  pub parents : length s.parents ≡ 64

-- a byte as a parent, 255 for none, and a parent as a byte
abbrev pub parent_of : ℕ → Parent
parent_of b = cond (eqb b 255) None (Some b)

abbrev pub byte_of : Parent → ℕ
byte_of None = 255
byte_of (Some n) = n

unfoldable pub keys_of : List Name → List ℕ → List Key
keys_of [] parents = []
keys_of (x ∷ names) [] = []
keys_of (x ∷ names) (p ∷ parents) = record { name = x; parent = parent_of p } ∷ keys_of names parents

abbrev pub table_of : Slots → List (Slot Key)
table_of s = slots_from s.taken (keys_of s.names s.parents)

-- slot i taken: its bit is set, and name and parent stand in their places
abbrev pub taking : Slots → ℕ → Name → Parent → Slots
taking s i x p = record { taken = bit_or s.taken (2 ^ i); names = set s.names i x; parents = set s.parents i (byte_of p) }

-- the slots of a word freed: their bits are cleared, and nothing else changes
abbrev pub freeing : Slots → ℕ → Slots
freeing s gone = record { taken = bit_and s.taken ((2 ^ 64 - 1) - gone); names = s.names; parents = s.parents }

-- the word of the slots that go with slot n
abbrev pub gone_with : Slots → ℕ → ℕ
gone_with s n = word_gone (goes_with (table_of s) n) 0 64

unfoldable pub put_stored : Slots → Name → Parent → Slots
put_stored s x p = after_check (put_check (table_of s) p) (taking s (lowest_free (table_of s)) x p) s

unfoldable pub drop_stored : Slots → ℕ → Slots
drop_stored s n = after_check (check47 (table_of s) n) (freeing s (gone_with s n)) s
