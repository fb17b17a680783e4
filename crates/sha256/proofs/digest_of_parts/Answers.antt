use Rattle.fips180.specs.Sha256.{sha256}
use Rattle.sha256.proofs.digest_of_parts.Goals as goal

pub returns : goal.returns
unfolding sha256
returns c = c.digest_of_parts.ensures
