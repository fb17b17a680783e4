-- `area::reader::zeros` meets its contract: all bytes are zero exactly if those not yet looked at are.
use Rattle.std.proofs.Common.{arith}
use Rattle.area.proofs.reader.Attributes.{zeros-not, zeros-on, zeros-end}
use Rattle.area.proofs.reader.zeros.Goals as goal

pub returns-then-byte-ne0 : goal.returns-then-byte-ne0
returns-then-byte-ne0 c = let l = c.loop-byte in zeros-not _ l.byte-index l.invariant (omega arith) c.if-byte-ne0.true

pub loop-byte-preserved : goal.loop-byte-preserved
loop-byte-preserved c = let l = c.loop-byte in zeros-on _ l.byte-index l.invariant (omega arith) c.if-byte-ne0.false

pub returns : goal.returns
returns c = let l = c.loop-byte in zeros-end _ l.byte-index l.invariant (omega arith)
