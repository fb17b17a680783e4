use Rattle.std.proofs.Common.{◌≡◌, ◌&&◌, take, drop, eqb}
use Rattle.slices.specs.Same.{same_list}
use Rattle.area.proofs.network.same_start.Given as goal

abbrev pub invariant-loop-i : goal.invariant-loop-i
invariant-loop-i l = same_list (take l.n l.a) (take l.n l.b) ≡ (eqb l.differ 0 && same_list (drop l.i (take l.n l.a)) (drop l.i (take l.n l.b)))
