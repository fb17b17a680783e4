-- `sha256_block::round::ch` meets its contract: the form with one `and` (proofs/Bits.antt).
use Rattle.std.proofs.Common.{rules}
use Rattle.fips180.proofs.Bits.{one-and_ch}
use Rattle.sha256_block.proofs.round.ch.Goals as goal

pub returns : goal.returns
returns c = one-and_ch c.args.x c.args.y c.args.z (search rules) (search rules) (search rules)
