use Rattle.std.specs.Iterator.Adapters.{zip_first, zip_second}
use Rattle.std.specs.Slice.Iter.{iter_rest}
use Rattle.bundle_rules.specs.Bundle.{packed}
use Rattle.bundle_contents.specs.Walks.{bodies_left}
use Rattle.compare_rules.specs.Compare.{written}
use Rattle.bundle_compare.specs.Changes.{listed_by}
use Rattle.bundle_compare.proofs.Listing.{Listed}
use Rattle.bundle_compare.proofs.compare.put_entries.Given as goal

abbrev pub invariant-loop-change : goal.invariant-loop-change
invariant-loop-change l =
    Listed (written (listed_by l.fn.changes (packed l.fn.bodies.bytes.now))) l.initial.out l.out
    (written (listed_by (iter_rest (zip_first l.change-iterator)) (bodies_left (zip_second l.change-iterator)))) l.fn.from l.at
