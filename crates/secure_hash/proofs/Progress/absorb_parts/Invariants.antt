use Rattle.std.proofs.Common.{◌≡◌, take}
use Rattle.slices.specs.Parts.{joined}
use Rattle.fips180.specs.Stream.{absorbed_by}
use Rattle.secure_hash.specs.Stream.{progress}
use Rattle.secure_hash.proofs.Progress.absorb_parts.Given as goal

-- the first parts are absorbed
abbrev pub invariant-loop-part : goal.invariant-loop-part
invariant-loop-part g l = progress l.self ≡ absorbed_by g.H.Hash.compress (progress l.initial.self) (joined (take l.part-index l.parts))
