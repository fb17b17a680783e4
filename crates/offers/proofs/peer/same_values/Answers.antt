use Rattle.std.proofs.Common.{refl, arith}
use Rattle.offers.proofs.peer.Lists.{values_next, values_done, other_length}
use Rattle.offers.proofs.peer.same_values.Goals as goal

pub returns-then-s-t : goal.returns-then-s-t
returns-then-s-t c = other_length _ _ c.if-s-t.true

pub loop-i-init : goal.loop-i-init
loop-i-init c = record { same_length = c.if-s-t.false; left = refl }

pub loop-i-preserved : goal.loop-i-preserved
loop-i-preserved c =
    let l = c.loop-i in
    record {
      same_length = l.invariant.same_length;
      left = values_next _ _ l.i l.same l.invariant.left (omega arith) (omega (arith, l.invariant.same_length));
    }

pub returns : goal.returns
returns c = let l = c.loop-i in values_done _ _ l.i l.same l.invariant.left (omega arith) (omega (arith, l.invariant.same_length))
