-- `secure_hash::Progress::absorb_parts` meets its contract: one part more is absorbed (`next_part` of fips180).
use Rattle.std.proofs.Common.{refl}
use Rattle.fips180.specs.Stream.{absorbed_by}
use Rattle.fips180.proofs.Absorbing.{next_part}
use Rattle.secure_hash.proofs.Progress.absorb_parts.Goals as goal

pub loop-part-init : goal.loop-part-init
unfolding absorbed_by
loop-part-init g c = refl

pub loop-part-preserved : goal.loop-part-preserved
loop-part-preserved g c =
    let l = c.loop-part in
    next_part g.H.Hash.compress _ c.args.parts.now l.part-index _ c.loop-part-test.true l.invariant c.absorb.ensures
