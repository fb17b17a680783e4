-- `sha256_block::round::small_sigma1` meets its contract: a rotation of a rotation, and a shift (proofs/Bits.antt).
use Rattle.sha256_block.proofs.round.Bits.{small1}
use Rattle.std.proofs.Common.{rules}
use Rattle.sha256_block.proofs.round.small_sigma1.Goals as goal

pub returns : goal.returns
returns c = small1 c.args.x (search rules) c.rotate_right.ensures c.rotate_right-2.ensures
