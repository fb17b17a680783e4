use Rattle.std.proofs.Common.{refl}
use Rattle.fips180.specs.Sha1.{H0}
use Rattle.sha1_hash.proofs.Sha1Hash520.first_value.Goals as goal

pub returns : goal.returns
unfolding H0
returns c = refl
