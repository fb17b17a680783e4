use Rattle.std.proofs.Common.{◌≡◌, ℕ, ◌+◌, ◌%◌, ◌^◌, ◌<◌, length, slice_index}
use Rattle.sha_blocks.proofs.sum.Given as goal

abbrev pub invariant-loop-i : goal.invariant-loop-i
invariant-loop-i g l = (length l.sum ≡ g.row.N) × ((k : ℕ) → k < l.i → slice_index l.sum k ≡ (slice_index l.h k + slice_index l.s k) % 2 ^ 32)
