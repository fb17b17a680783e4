use Rattle.std.proofs.Common.{sym}
use Rattle.bundle_contents.proofs.Walking.{repeats-on, repeats-not}
use Rattle.bundle_contents.proofs.ids.id_repeats.Goals as goal

pub returns-then-id_stands : goal.returns-then-id_stands
returns-then-id_stands g c = sym (repeats-on c.in-Some.ensures.1 c.id_stands.ensures c.if-id_stands.true c.loop-id.invariant)

pub loop-id-preserved : goal.loop-id-preserved
loop-id-preserved g c = repeats-on c.in-Some.ensures.1 c.id_stands.ensures c.if-id_stands.false c.loop-id.invariant

pub returns : goal.returns
returns g c = repeats-not c.in_default.ensures c.loop-id.invariant
