use mathlib.Core.Path.{◌≡◌}
use mathlib.Core.Bool.{◌&&◌}
use lib.Dec.{eqb}
use lib.ListN.{drop}
use Rattle.slices.specs.Same.{same_list}
use Rattle.slices.proofs.same_bytes.Given as goal

abbrev pub invariant-loop-i : goal.invariant-loop-i
invariant-loop-i l = same_list l.a l.b ≡ (eqb l.differ 0 && same_list (drop l.i l.a) (drop l.i l.b))
