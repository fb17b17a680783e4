-- `secure_hash::put_length` meets its contract: the bytes of the count of bits end the block (`length_copied` of fips180).
use Rattle.std.proofs.Common.{arith}
use Rattle.fips180.proofs.Closing.{length_copied}
use Rattle.secure_hash.proofs.put_length.Goals as goal

pub returns : goal.returns
returns c = length_copied c.args.block.now c.args.count c.requires (rw c.be64.ensures at (c.copy_at.ensures.fits (omega arith)))
