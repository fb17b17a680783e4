use Rattle.std.proofs.Common.{refl}
use Rattle.fips180.specs.Sha256.{rounds}
use Rattle.sha256_block.proofs.Sha256Compression8.rounds.Goals as goal

pub loop-g-init : goal.loop-g-init
unfolding rounds
loop-g-init c = λ b e. (refl, e)
