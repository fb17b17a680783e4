use Rattle.std.proofs.Common.{arith}
use Rattle.sha_blocks.proofs.Ring.{moved}
use Rattle.sha_blocks.proofs.put_four.Goals as goal

pub returns : goal.returns
returns g c = λ b t ring.
    let f = g.S.Schedule.W b in
    let two = c.put_next-2.ensures b t (c.put_next.ensures b t ring) in
    let three = c.put_next-3.ensures b t (moved f t _ (omega arith) two) in
    moved f t _ (omega arith) (c.put_next-4.ensures b t (moved f t _ (omega arith) three))
