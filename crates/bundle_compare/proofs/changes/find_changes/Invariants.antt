use Rattle.std.specs.Iterator.Adapters.{enumerate_source, enumerate_count}
use Rattle.bundle_rules.specs.Bundle.{bodies_of}
use Rattle.bundle_contents.specs.Walks.{bodies_left}
use Rattle.bundle_compare.proofs.Filling.{Filled}
use Rattle.bundle_compare.proofs.changes.find_changes.Given as goal

abbrev pub invariant-loop-i : goal.invariant-loop-i
invariant-loop-i l =
    Filled l.side (bodies_of l.other.file.now) (bodies_of l.bundle.file.now) l.initial.counts l.counts l.changes (bodies_left (enumerate_source l.i-iterator)) (enumerate_count l.i-iterator)
