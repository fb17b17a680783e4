use Rattle.sha_blocks.proofs.Ring.{none, all}
use Rattle.sha_blocks.proofs.refill.Goals as goal

pub returns : goal.returns
returns g c = λ b t e.
    let f = g.S.Schedule.W b in
    all f t (c.put_four-4.ensures b t (c.put_four-3.ensures b t (c.put_four-2.ensures b t (c.put_four.ensures b t (none f t c.told-w e)))))
