-- `secure_hash::begin` meets its contract: the bytes after the whole blocks are copied to an empty block (`begun` of fips180).
use Rattle.fips180.proofs.Absorbing.{begun}
use Rattle.secure_hash.proofs.begin.Goals as goal

pub returns : goal.returns
returns c = begun c.args.s.now c.copy.ensures
