use Rattle.std.proofs.Common.{◌∙◌, arith}
use Rattle.std.specs.Slice.Iter.{chunks_exact_rest}
use Rattle.sha_blocks.proofs.Blocks.{all_done, one_done}
use Rattle.sha_blocks.proofs.compress_blocks.Goals as goal

pub loop-block-preserved : goal.loop-block-preserved
loop-block-preserved g c =
    let rest = chunks_exact_rest c.loop-block.block-iterator in
    let left = chunks_exact_rest c.next.new.self in
    let step = c.in-Some.ensures.steps in
    let size = c.loop-block.invariant.0 in (
      step.0 ∙ size,
      one_done g.C.Compression.compress c.loop-block.h rest c.in-Some.block.now c.compress.new.h left step.1.0 (step.1.1 ∙ size) c.compress.ensures c.loop-block.invariant.1,
    )

pub returns : goal.returns
returns g c =
    let rest = chunks_exact_rest c.loop-block.block-iterator in
    let size = c.loop-block.invariant.0 in
    all_done g.C.Compression.compress c.loop-block.h rest (omega (arith, c.in-None.ensures.steps.1.0, size)) c.loop-block.invariant.1
