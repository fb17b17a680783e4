use Rattle.std.proofs.Common.{◌≡◌}
use Rattle.bundle_rules.specs.Bundle.{follow, last_end}
use Rattle.bundle_contents.specs.Walks.{lines_left}
use Rattle.bundle_contents.proofs.bundle.last_end.Given as goal

abbrev pub invariant-loop-line : goal.invariant-loop-line
invariant-loop-line l =
    (follow l.fn.contents (lines_left l.fn.lines) ≡ follow l.end (lines_left l.line-iterator))
    × (last_end l.fn.contents (lines_left l.fn.lines) ≡ last_end l.end (lines_left l.line-iterator))
