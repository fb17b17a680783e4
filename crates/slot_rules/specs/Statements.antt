-- What is proved of the calls on slots (document 02, requests 12 and 13). The proofs are in proofs/.
use Rattle.std.specs.Prelude.{ℕ, ◌+◌, ◌<◌, ◌≡◌, true, false, List, [], ◌∷◌, length, get_or, replicate, Some}
use Rattle.refusal.specs.Checks.{Reason, bare}
use Rattle.refusal.specs.Answers.{Answer, returned, refused}
use Rattle.slot_rules.specs.declared.Name.{Name}
use Rattle.slot_rules.specs.declared.Slots.{Slots}
use Rattle.slot_rules.specs.Table.{Slot, free, holding, lowest_free, live_slot_count, is_live, slots_from, count_gone}
use Rattle.slot_rules.specs.Parents.{Parent, Key, parent_in, goes_with, root_within, parent_live, root_near}
use Rattle.slot_rules.specs.Calls.{put_answer, put_table, drop_answer, drop_table}
use Rattle.slot_rules.specs.Stored.{Fits, table_of, put_stored, drop_stored}

-- 64 slots, all free
abbrev pub empty : {X : Type 0} → List (Slot X)
empty = replicate 64 free

-- a call: a name put below a parent, or a slot dropped by its number
pub data Call : Type 0 where
  puts : Name → Parent → Call
  drops : ℕ → Call

-- the table after one call, and after calls in their order
abbrev pub after : List (Slot Key) → Call → List (Slot Key)
after t (puts x p) = put_table t x p
after t (drops n) = drop_table t n

unfoldable pub after_all : List (Slot Key) → List Call → List (Slot Key)
after_all t [] = t
after_all t (x ∷ calls) = after_all (after t x) calls

-- 1 for an accepted put; how many an accepted drop says went; 0 for a refusal
abbrev pub one_put : Answer → ℕ
one_put (returned n) = 1
one_put (refused x) = 0

abbrev pub gone : Answer → ℕ
gone (returned n) = n
gone (refused x) = 0

abbrev pub put_by : List (Slot Key) → Call → ℕ
put_by t (puts x p) = one_put (put_answer t p)
put_by t (drops n) = 0

abbrev pub gone_by : List (Slot Key) → Call → ℕ
gone_by t (puts x p) = 0
gone_by t (drops n) = gone (drop_answer t n)

unfoldable pub accepted : List (Slot Key) → List Call → ℕ
accepted t [] = 0
accepted t (x ∷ calls) = put_by t x + accepted (after t x) calls

unfoldable pub went : List (Slot Key) → List Call → ℕ
went t [] = 0
went t (x ∷ calls) = gone_by t x + went (after t x) calls

-- from the empty table, after any calls: the live slots and all that went are the accepted puts
abbrev pub LiveCount : Type 0
LiveCount = (calls : List Call) → live_slot_count (after_all empty calls) + went empty calls ≡ accepted empty calls

-- a table in which every live slot's parent is none or live, and a root is reached within three steps
pub record Sound (t : List (Slot Key)) : Type 0 where
  pub parents : (s : ℕ) → is_live t s ≡ true → parent_live t (parent_in (get_or t s free)) ≡ true
  pub roots : (s : ℕ) → is_live t s ≡ true → root_within 3 t (Some s) ≡ true

-- from the empty table, after any calls
abbrev pub AlwaysSound : Type 0
AlwaysSound = (calls : List Call) → Sound (after_all empty calls)

-- of any table: a put is refused with 48 exactly when the parent is neither none nor live, with 49 exactly when it is but has no root near, and
-- with 46 exactly when the parent will do and all slots are taken
abbrev pub PutRefused : Type 0
PutRefused =
    (t : List (Slot Key)) (p : Parent)
    → (put_answer t p ≡ refused (bare 48) → parent_live t p ≡ false)
    × (parent_live t p ≡ false → put_answer t p ≡ refused (bare 48))
    × (put_answer t p ≡ refused (bare 49) → (parent_live t p ≡ true) × (root_near t p ≡ false))
    × (parent_live t p ≡ true → root_near t p ≡ false → put_answer t p ≡ refused (bare 49))
    × (put_answer t p ≡ refused (bare 46) → (parent_live t p ≡ true) × (root_near t p ≡ true) × (live_slot_count t ≡ length t))
    × (parent_live t p ≡ true → root_near t p ≡ true → live_slot_count t ≡ length t → put_answer t p ≡ refused (bare 46))

-- and it is accepted in every other case, with the number of the lowest free slot
abbrev pub PutAccepted : Type 0
PutAccepted =
    (t : List (Slot Key)) (p : Parent)
    → parent_live t p ≡ true
    → root_near t p ≡ true
    → live_slot_count t < length t
    → put_answer t p ≡ returned (lowest_free t)

-- the slot that a put takes is free, every lower one is taken, name and parent are kept there, and no other slot changes
abbrev pub LowestTaken : Type 0
LowestTaken =
    (t : List (Slot Key)) (p : Parent) (i : ℕ)
    → put_answer t p ≡ returned i
    → (i < length t) × (is_live t i ≡ false) × ((j : ℕ) → j < i → is_live t j ≡ true)

abbrev pub PutKept : Type 0
PutKept =
    (t : List (Slot Key)) (x : Name) (p : Parent) (i : ℕ)
    → put_answer t p ≡ returned i
    → get_or (put_table t x p) i free ≡ holding (record { name = x; parent = p })

abbrev pub OthersStay : Type 0
OthersStay = (t : List (Slot Key)) (x : Name) (p : Parent) (j : ℕ) → (j ≡ lowest_free t → ⊥) → get_or (put_table t x p) j free ≡ get_or t j free

-- a drop is refused exactly when there is no such live slot
abbrev pub NoSuchSlotExactly : Type 0
NoSuchSlotExactly =
    (t : List (Slot Key)) (n : ℕ)
    → (drop_answer t n ≡ refused (bare 47) → is_live t n ≡ false) × (is_live t n ≡ false → drop_answer t n ≡ refused (bare 47))

-- in every other case it is accepted, and the number that it answers is of slots that were live and are not any more
abbrev pub DropCounted : Type 0
DropCounted =
    (t : List (Slot Key)) (n : ℕ)
    → is_live t n ≡ true
    → (drop_answer t n ≡ returned (count_gone (goes_with t n) 0 (length t)))
    × (live_slot_count (drop_table t n) + count_gone (goes_with t n) 0 (length t) ≡ live_slot_count t)

-- a refused call changes nothing
abbrev pub RefusedStays : Type 0
RefusedStays =
    (t : List (Slot Key))
    → ((x : Name) (p : Parent) (y : Reason) → put_answer t p ≡ refused y → put_table t x p ≡ t)
    × ((n : ℕ) (y : Reason) → drop_answer t n ≡ refused y → drop_table t n ≡ t)

-- after an accepted drop the slots that go are free, the slot dropped among them, and no other slot changes
abbrev pub DropExactly : Type 0
DropExactly =
    (t : List (Slot Key)) (n : ℕ)
    → is_live t n ≡ true
    → (goes_with t n n ≡ true)
    × ((s : ℕ) → goes_with t n s ≡ true → get_or (drop_table t n) s free ≡ free)
    × ((s : ℕ) → goes_with t n s ≡ false → get_or (drop_table t n) s free ≡ get_or t s free)

-- a word of zeros is the empty table, whatever stands in the slots
abbrev pub ZerosAreEmpty : Type 1
ZerosAreEmpty = (X : Type 0) (held : List X) → length held ≡ 64 → slots_from 0 held ≡ empty

-- what a put stores holds the table after the put, and so with a drop
abbrev pub StoredIsTable : Type 0
StoredIsTable =
    (s : Slots)
    → Fits s
    → ((x : Name) (p : Parent) → table_of (put_stored s x p) ≡ put_table (table_of s) x p)
    × ((n : ℕ) → table_of (drop_stored s n) ≡ drop_table (table_of s) n)
