use Rattle.std.proofs.Common.{arith}
use Rattle.bundle_writer.proofs.Lines.{lined_room, lined_on, lined_end, packed_size}
use Rattle.bundle_writer.proofs.put_lines.Goals as goal

pub overflow_add-offset : goal.overflow_add-offset
overflow_add-offset c =
    let l = c.loop-body.invariant in
    omega (arith, (lined_room c.in-Some.ensures.steps l).1, packed_size c.args.bodies.bytes.now, c.requires.contents_value, c.requires.in_bounds)

pub loop-body-preserved : goal.loop-body-preserved
loop-body-preserved c =
    let l = c.loop-body.invariant in
    lined_on c.in-Some.ensures.steps l (omega (arith, c.requires.contents_value, c.requires.in_bounds)) c.in-Some.body.passes c.put_line.ensures

pub returns : goal.returns
returns c = rw c.requires.contents_value (lined_end c.in-None.ensures.steps.0 c.loop-body.invariant)
