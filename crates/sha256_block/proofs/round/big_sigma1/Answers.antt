-- `sha256_block::round::big_sigma1` meets its contract: three rotations, each of a rotation (proofs/Bits.antt).
use Rattle.sha256_block.proofs.round.Bits.{big1}
use Rattle.std.proofs.Common.{rules}
use Rattle.sha256_block.proofs.round.big_sigma1.Goals as goal

pub returns : goal.returns
returns c = big1 c.args.x (search rules) c.rotate_right.ensures c.rotate_right-2.ensures c.rotate_right-3.ensures
