use Rattle.slots.proofs.BitLaws.{low_tested, high_tested}
use Rattle.slots.proofs.bits.has_bit.Goals as goal

pub returns-then-i-lt32 : goal.returns-then-i-lt32
returns-then-i-lt32 c = let a = c.args in low_tested a.word a.i c.if-i-lt32.true

pub returns-then-i-lt64 : goal.returns-then-i-lt64
returns-then-i-lt64 c =
    let a = c.args in
    high_tested a.word a.i c.if-i-lt32.false c.if-i-lt64.true
