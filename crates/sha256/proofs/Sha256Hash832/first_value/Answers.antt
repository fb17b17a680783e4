use Rattle.std.proofs.Common.{refl}
use Rattle.fips180.specs.Sha256.{H0}
use Rattle.sha256.proofs.Sha256Hash832.first_value.Goals as goal

pub returns : goal.returns
unfolding H0
returns c = refl
