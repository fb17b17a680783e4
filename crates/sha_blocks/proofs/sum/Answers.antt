use Rattle.std.proofs.Common.{ℕ, ◌+◌, ◌%◌, ◌^◌, slice_index, arith}
use Rattle.sha_blocks.proofs.Values.{by_words}
use Rattle.sha_blocks.proofs.sum.Goals as goal

pub returns : goal.returns
returns g c =
    by_words (λ (k : ℕ). (slice_index c.args.h k + slice_index c.args.s k) % 2 ^ 32) g.row.N c.loop-i.sum c.loop-i.invariant.0
    (λ k lt. c.loop-i.invariant.1 k (omega (arith, lt, c.loop-i.auto.i-end, c.loop-i-test.false)))
