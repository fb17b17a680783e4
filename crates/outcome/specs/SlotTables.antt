-- How C names a parent, and what a put and a drop return to C: the struct kv_slots_outcome of include/ketvaulo.h, whose comment says the same in words.
use Rattle.std.specs.Prelude.{ℕ, ◌-◌, ◌^◌, cond, eqb, Some, None}
use Rattle.outcome.specs.declared.Outcome.{Outcome}
use Rattle.slot_rules.specs.declared.Slots.{Slots}
use Rattle.slot_rules.specs.Parents.{Parent}
use Rattle.outcome.specs.declared.slot_tables.SlotsOutcome.{SlotsOutcome}

-- a parent's number; KV_NO_PARENT, 2^64 - 1, is none
abbrev pub parent_for : ℕ → Parent
parent_for n = cond (eqb n (2 ^ 64 - 1)) None (Some n)

-- the answer, and the slots after the call
abbrev pub slots_outcome : Outcome → Slots → SlotsOutcome
slots_outcome answer s = record { refusal = answer.refusal; value = answer.value; slots = s }
