use Rattle.std.proofs.Common.{arith, ◌∙◌}
use Rattle.bundle_contents.specs.Walks.{lines_left}
use Rattle.bundle_contents.proofs.Walking.{body_told}
use Rattle.bundle_contents.proofs.Accepted.{has_line, lines_few, lines_fit, sought_all}
use Rattle.bundle_contents.proofs.Finding.{sought_fits, sought_frame, sought_found, sought_on, sought-none}
use Rattle.bundle_contents.proofs.bundle.Bundle.find.Goals as goal

pub number_at-requires : goal.number_at-requires
number_at-requires c = omega (arith, has_line _ c.args.self.passes)

pub invariant_of-line-items : goal.invariant_of-line-items
invariant_of-line-items c =
    let p = c.args.self.passes in
    let count = c.from.ensures ∙ c.number_at.ensures in
    record { few = lines_few _ p count; inside = lines_fit _ p count; begins = omega arith }

pub loop-line-init : goal.loop-line-init
unfolding lines_left
loop-line-init c = rw c.into_iter-line-iterator.ensures.into_iter_gives (sought_all _ c.args.self.passes _ (c.from.ensures ∙ c.number_at.ensures))

pub slice_bounds-result-end : goal.slice_bounds-result-end
slice_bounds-result-end c = omega (arith, sought_fits c.in-Some.ensures.steps c.loop-line.invariant, c.from-start.ensures, c.from-then-same_id.ensures)

pub invariant_of-result : goal.invariant_of-result
invariant_of-result c =
    let on = c.in-Some.ensures.steps in
    record { passes = rw (body_told on c.from-start.ensures c.from-then-same_id.ensures _) (sought_frame on c.loop-line.invariant) }

pub returns-then-same_id : goal.returns-then-same_id
returns-then-same_id c =
    let on = c.in-Some.ensures.steps in
    sought_found on c.loop-line.invariant c.same_id.ensures c.if-same_id.true (body_told on c.from-start.ensures c.from-then-same_id.ensures _)

pub loop-line-preserved : goal.loop-line-preserved
loop-line-preserved c = sought_on c.in-Some.ensures.steps c.loop-line.invariant c.same_id.ensures c.if-same_id.false

pub returns : goal.returns
returns c = sought-none c.in-None.ensures.steps.0 c.loop-line.invariant
