use Rattle.fips180.specs.Sha256.{sha256}
use Rattle.sha256.proofs.digest.Goals as goal

pub returns : goal.returns
unfolding sha256
returns c = c.digest.ensures
