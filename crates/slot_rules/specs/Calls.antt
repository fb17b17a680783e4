-- The calls on a table of slots (document 02, requests 12 and 13): what each answers, and the table after it. An accepted call answers a number.
use Rattle.std.specs.Prelude.{ℕ, List, ltb, length, set}
use Rattle.refusal.specs.Checks.{Check, bare, unless, ◌and_then◌}
use Rattle.refusal.specs.Answers.{Answer, answer_to, after_check}
use Rattle.slot_rules.specs.declared.Name.{Name}
use Rattle.slot_rules.specs.Table.{Slot, holding, lowest_free, is_live, freed, count_gone}
use Rattle.slot_rules.specs.Parents.{Parent, Key, goes_with, parent_live, root_near}

module _ {X : Type 0} where
  -- 46: all slots are taken
  unfoldable pub check46 : List (Slot X) → Check
  check46 t = unless (ltb (lowest_free t) (length t)) (bare 46)

  -- 47: the number is over the last slot's, or that slot is free
  unfoldable pub check47 : List (Slot X) → ℕ → Check
  check47 t n = unless (is_live t n) (bare 47)

-- 48: the parent is neither none nor a live slot
unfoldable pub check48 : List (Slot Key) → Parent → Check
check48 t p = unless (parent_live t p) (bare 48)

-- 49: from the parent, no root within two steps through live slots
unfoldable pub check49 : List (Slot Key) → Parent → Check
check49 t p = unless (root_near t p) (bare 49)

-- a put takes the lowest free slot, keeps name and parent there, and returns its number
unfoldable pub put_check : List (Slot Key) → Parent → Check
put_check t p = check48 t p and_then check49 t p and_then check46 t

unfoldable pub put_answer : List (Slot Key) → Parent → Answer
put_answer t p = answer_to (put_check t p) (lowest_free t)

unfoldable pub put_table : List (Slot Key) → Name → Parent → List (Slot Key)
put_table t x p = after_check (put_check t p) (set t (lowest_free t) (holding (record { name = x; parent = p }))) t

-- a drop frees its slot and all that descend from it, and returns how many went
unfoldable pub drop_answer : List (Slot Key) → ℕ → Answer
drop_answer t n = answer_to (check47 t n) (count_gone (goes_with t n) 0 (length t))

unfoldable pub drop_table : List (Slot Key) → ℕ → List (Slot Key)
drop_table t n = after_check (check47 t n) (freed (goes_with t n) 0 t) t
