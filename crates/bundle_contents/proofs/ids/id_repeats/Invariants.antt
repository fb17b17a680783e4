use Rattle.std.proofs.Common.{◌≡◌, length}
use Rattle.bundle_rules.specs.Bundle.{id_repeats}
use Rattle.bundle_contents.proofs.ids.id_repeats.Given as goal

abbrev pub invariant-loop-id : goal.invariant-loop-id
invariant-loop-id g l = id_repeats (g.I.KeyIds.ids l.fn.ids) ≡ id_repeats (g.I.KeyIds.ids l.left)

abbrev pub decreases-loop-id : goal.decreases-loop-id
decreases-loop-id g l = length (g.I.KeyIds.ids l.left)
