use mathlib.Core.Path.{◌≡◌}
use Prim.Native.Nat.{◌-◌}
use Rattle.slot_rules.specs.Table.{word_gone}
use Rattle.slots.specs.Internal.{step_in, reaches_by}
use Rattle.slots.proofs.tree.reaching.Given as goal

abbrev pub invariant-loop-s : goal.invariant-loop-s
invariant-loop-s l = l.word ≡ word_gone (reaches_by (step_in l.steps) l.n) l.s (64 - l.s)
