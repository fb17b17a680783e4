use Rattle.bundle_compare.proofs.Filling.{filled_on, filled_all, filled_counts}
use Rattle.bundle_compare.proofs.changes.find_changes.Goals as goal

pub loop-i-preserved : goal.loop-i-preserved
loop-i-preserved c =
    let step = c.in-Some.ensures.steps in
    let add = c.add.ensures in
    rw (step.1, step.2) (filled_on step.0 c.loop-i.invariant (rw c.bodies.ensures.bodies at c.bodies.ensures.few) c.change_of-change.result c.change_of-change.ensures add.only_first add.changed add.only_second)

pub returns-clause-listed : goal.returns-clause-listed
returns-clause-listed c = filled_all c.in-None.ensures.steps.0.0 c.loop-i.invariant

pub returns-clause-only_first : goal.returns-clause-only_first
returns-clause-only_first c = (filled_counts c.in-None.ensures.steps.0.0 c.loop-i.invariant).0

pub returns-clause-changed : goal.returns-clause-changed
returns-clause-changed c = (filled_counts c.in-None.ensures.steps.0.0 c.loop-i.invariant).1

pub returns-clause-only_second : goal.returns-clause-only_second
returns-clause-only_second c = (filled_counts c.in-None.ensures.steps.0.0 c.loop-i.invariant).2
