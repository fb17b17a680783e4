use Rattle.std.proofs.Common.{◌≡◌, ℕ, ◌<◌, length, slice_index}
use Rattle.fips180.specs.Words.{word}
use Rattle.sha_blocks.proofs.load.Given as goal

abbrev pub invariant-loop-t : goal.invariant-loop-t
invariant-loop-t g l = (length l.w ≡ 16) × ((k : ℕ) → k < l.t → slice_index l.w k ≡ word l.block k)
