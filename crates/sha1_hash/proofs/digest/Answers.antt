use Rattle.fips180.specs.Sha1.{sha1}
use Rattle.sha1_hash.proofs.digest.Goals as goal

pub returns : goal.returns
unfolding sha1
returns c = c.digest.ensures
