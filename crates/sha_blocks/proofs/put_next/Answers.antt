use Rattle.sha_blocks.proofs.Ring.{next_put}
use Rattle.sha_blocks.proofs.put_next.Goals as goal

pub returns : goal.returns
returns g c = λ b t ring.
    let s = g.S.Schedule in
    let laws = g.met.S.Schedule in
    next_put (s.W b) s.next s.LAST s.BETWEEN s.FIRST (laws.late b) t c.args.n c.args.w.now laws.near c.requires ring c.LAST.ensures c.BETWEEN.ensures c.FIRST.ensures c.next_word.ensures
