-- `offers::checks::repeated` meets its contract: whether a value occurs twice is whether one does from index i on.
use Rattle.std.proofs.Common.{sym, ◌∙◌, arith}
use Rattle.offers.proofs.checks.Lists.{repeats_hit, repeats_miss, repeats_done}
use Rattle.offers.proofs.checks.repeated.Goals as goal

pub returns-then-contains : goal.returns-then-contains
returns-then-contains c = let l = c.loop-i in repeats_hit _ l.i l.invariant (omega arith) (sym c.contains.ensures ∙ c.if-contains.true)

pub loop-i-preserved : goal.loop-i-preserved
loop-i-preserved c = let l = c.loop-i in repeats_miss _ l.i l.invariant (omega arith) (sym c.contains.ensures ∙ c.if-contains.false)

pub returns : goal.returns
returns c = let l = c.loop-i in repeats_done _ l.i l.invariant (omega arith)
