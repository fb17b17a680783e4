use Rattle.std.proofs.Common.{◌≡◌, ◌/◌, length}
use Rattle.std.specs.Slice.Iter.{chunks_exact_rest, chunks_exact_size}
use Rattle.fips180.specs.Hash.{blocks_by}
use Rattle.sha_blocks.proofs.compress_blocks.Given as goal

-- the blocks that are left bring the hash value to that after all
abbrev pub invariant-loop-block : goal.invariant-loop-block
invariant-loop-block g l =
    (chunks_exact_size l.block-iterator ≡ 64)
    × (blocks_by g.C.Compression.compress (length (chunks_exact_rest l.block-iterator) / 64) l.h (chunks_exact_rest l.block-iterator)
    ≡ blocks_by g.C.Compression.compress (length l.message / 64) l.initial.h l.message)
