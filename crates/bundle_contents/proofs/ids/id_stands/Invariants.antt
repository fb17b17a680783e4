use Rattle.std.proofs.Common.{◌≡◌, length}
use Rattle.bundle_rules.specs.Bundle.{id_stands}
use Rattle.bundle_contents.proofs.ids.id_stands.Given as goal

abbrev pub invariant-loop-other : goal.invariant-loop-other
invariant-loop-other g l = id_stands l.id (g.I.KeyIds.ids l.fn.ids) ≡ id_stands l.id (g.I.KeyIds.ids l.left)

abbrev pub decreases-loop-other : goal.decreases-loop-other
decreases-loop-other g l = length (g.I.KeyIds.ids l.left)
