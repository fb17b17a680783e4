use Rattle.bundle_contents.proofs.Walking.{follow-on, end-on, follow-not, follow_all, end_all}
use Rattle.bundle_contents.proofs.bundle.last_end.Goals as goal

pub returns-then-offset-end : goal.returns-then-offset-end
returns-then-offset-end c = follow-not c.in-Some.ensures.steps c.from-offset.ensures c.if-offset-end.true c.loop-line.invariant.0

pub loop-line-preserved : goal.loop-line-preserved
loop-line-preserved c =
    let on = c.in-Some.ensures.steps in
    let i = c.loop-line.invariant in
    (follow-on on c.from-offset.ensures c.from.ensures _ c.if-offset-end.false i.0, end-on on c.from-offset.ensures c.from.ensures _ i.1)

pub returns : goal.returns
returns c =
    let i = c.loop-line.invariant in
    (follow_all _ c.in-None.ensures.steps.0 i.0, end_all _ c.in-None.ensures.steps.0 i.1)
