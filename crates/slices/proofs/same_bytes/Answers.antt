-- `slices::same_bytes` meets its contract. The loop's invariant: the lists are equal exactly if no difference was gathered so far and the rest is equal.
use native.Mathlib.Omega.{arith}
use Rattle.slices.proofs.Same.{lengths_differ, same_on, same_end}
use Rattle.slices.proofs.same_bytes.Goals as goal

pub returns-then-a-b : goal.returns-then-a-b
returns-then-a-b c = lengths_differ _ _ c.if-a-b.true

pub loop-i-preserved : goal.loop-i-preserved
loop-i-preserved c =
    let l = c.loop-i in
    same_on _ _ l.i l.differ l.invariant (omega arith) (omega arith)

pub returns : goal.returns
returns c = let l = c.loop-i in same_end _ _ l.i l.differ l.invariant (omega arith) (omega arith)
