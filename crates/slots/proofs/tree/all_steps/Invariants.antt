use mathlib.Core.Path.{◌≡◌}
use Prim.Native.Nat.{◌/◌, ◌^◌}
use lib.ListN.{length}
use Rattle.slots.proofs.Steps.{Filled}
use Rattle.slots.proofs.tree.all_steps.Given as goal

abbrev pub invariant-loop-s : goal.invariant-loop-s
invariant-loop-s l = (length l.steps ≡ 64) × (l.left ≡ l.taken / 2 ^ l.s) × Filled l.taken l.parents l.s l.steps
