-- `sha256_block::round::maj` meets its contract: the form with one `and` (proofs/Bits.antt).
use Rattle.std.proofs.Common.{rules}
use Rattle.fips180.proofs.Bits.{one-and_maj}
use Rattle.sha256_block.proofs.round.maj.Goals as goal

pub returns : goal.returns
returns c = one-and_maj c.args.x c.args.y c.args.z (search rules) (search rules) (search rules)
