use Rattle.std.proofs.Common.{◌≡◌, List, ℕ, ◌∷◌, length, sym, ap, None, Some, arith, rules}
use Rattle.std.specs.Iterator.Adapters.{zip_first, zip_second}
use Rattle.std.specs.Slice.Iter.{iter_rest}
use Rattle.bundle_rules.specs.Bundle.{key_id_in}
use Rattle.bundle_contents.specs.Walks.{bodies_left}
use Rattle.compare_rules.specs.Compare.{written}
use Rattle.bundle_compare.specs.Changes.{number_of, listed_by}
use Rattle.bundle_compare.proofs.Listing.{part_room, part_on, listed_end, none-listed, one_listed, left_none}
use Rattle.bundle_compare.proofs.compare.put_entries.Goals as goal

pub put_entry-requires : goal.put_entry-requires
put_entry-requires c =
    let step = c.in-Some.ensures.steps in
    let part : List ℕ = number_of (Some c.in-Some-change.change) ∷ key_id_in c.in-Some.body.bytes.now in
    let left : List ℕ = written (listed_by (iter_rest (zip_first c.next.new.self)) (bodies_left (zip_second c.next.new.self))) in
    let one = one_listed step.0 step.1 c.in-Some-change.change c.in-Some-change.is in
    omega (arith, part_room part left one c.loop-change.invariant c.requires, ap length c.id.ensures.id)

pub loop-change-preserved-in-Some-change : goal.loop-change-preserved-in-Some-change
loop-change-preserved-in-Some-change c =
    let step = c.in-Some.ensures.steps in
    let part : List ℕ = number_of (Some c.in-Some-change.change) ∷ key_id_in c.in-Some.body.bytes.now in
    let left : List ℕ = written (listed_by (iter_rest (zip_first c.next.new.self)) (bodies_left (zip_second c.next.new.self))) in
    let one = one_listed step.0 step.1 c.in-Some-change.change c.in-Some-change.is in
    let put = rw c.id.ensures.id at c.put_entry.ensures in
    let long = ap length c.id.ensures.id in
    part_on part left one c.loop-change.invariant c.requires (omega (arith, long, c.id.ensures.long)) (omega (arith, long)) put

pub loop-change-preserved : goal.loop-change-preserved
loop-change-preserved c =
    let step = c.in-Some.ensures.steps in
    let none : c.in-Some.change.now ≡ None = search rules in
    rw (sym (none-listed step.0 step.1 none)) c.loop-change.invariant

pub returns-clause-end : goal.returns-clause-end
returns-clause-end c = (listed_end (left_none _ _ c.in-None.ensures.steps) c.loop-change.invariant).0

pub returns-clause-buffer : goal.returns-clause-buffer
returns-clause-buffer c = (listed_end (left_none _ _ c.in-None.ensures.steps) c.loop-change.invariant).1
