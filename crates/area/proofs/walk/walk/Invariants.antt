-- Reading the area is reading on from the reader's place, past what was met so far.
use Rattle.std.proofs.Common.{◌≡◌}
use Rattle.area_format.specs.Area.{read_on, attributes}
use Rattle.area.specs.Internal.{standings}
use Rattle.area.proofs.walk.walk.Given as goal

abbrev pub invariant-loop-at : goal.invariant-loop-at
invariant-loop-at l =
    (goal.iterator-loop-at).can_next l.at-iterator
    × (goal.iterator-loop-at).is_finite l.at-iterator
    × (read_on l.initial.met.offers l.initial.met.name (attributes l.area) ≡ read_on l.met.offers l.met.name (standings l.at-iterator.area.now l.at-iterator.at))
