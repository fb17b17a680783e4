use Rattle.std.proofs.Common.{◌≡◌}
use Rattle.bundle_rules.specs.Bundle.{bodies_check}
use Rattle.bundle_contents.specs.Internal.{Inside}
use Rattle.bundle_contents.specs.Walks.{lines_left}
use Rattle.bundle_contents.proofs.bundle.check_bodies.Given as goal

abbrev pub invariant-loop-line : goal.invariant-loop-line
invariant-loop-line l =
    Inside l.file (lines_left l.line-iterator)
    × (bodies_check l.file (lines_left l.fn.lines) ≡ bodies_check l.file (lines_left l.line-iterator))
