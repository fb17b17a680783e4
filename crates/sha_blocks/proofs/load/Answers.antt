use Rattle.std.proofs.Common.{sym, ◌∙◌, arith}
use Rattle.sha_blocks.proofs.Window.{loaded}
use Rattle.sha_blocks.proofs.load.Goals as goal

pub returns : goal.returns
returns g c =
    loaded (g.S.Schedule.W c.args.block.now) c.loop-t.w c.loop-t.invariant.0
    (λ k lt. c.loop-t.invariant.1 k (omega (arith, lt, c.loop-t.auto.t-end, c.loop-t-test.false)) ∙ sym (g.met.S.Schedule.early c.args.block.now k lt))
