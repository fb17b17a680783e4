-- `area::network::same_start` meets its contract. The loop's invariant: the bytes are equal exactly if no difference was gathered so far and the rest of them is
-- equal.
use Rattle.std.proofs.Common.{◌<◌, take, get_or-take, length-take, arith}
use Rattle.slices.proofs.Same.{same_on, same_end}
use Rattle.area.proofs.network.same_start.Goals as goal

pub loop-i-preserved : goal.loop-i-preserved
loop-i-preserved c =
    let l = c.loop-i in
    let a = c.args in
    let inside : l.i < a.n = omega arith in
    rw (get_or-take a.n a.a.now l.i 0, get_or-take a.n a.b.now l.i 0) at
    (same_on (take a.n a.a.now) (take a.n a.b.now) l.i l.differ l.invariant (simp length-take (omega arith)) (simp length-take (omega arith)))

pub returns : goal.returns
returns c =
    let l = c.loop-i in
    same_end _ _ l.i l.differ l.invariant (simp length-take (omega arith)) (simp length-take (omega arith))
