-- `secure_hash::compress_last` meets its contract: the block with its length, compressed.
use Rattle.std.proofs.Common.{ap, ◌∙◌}
use Rattle.fips180.proofs.Blocks.{one_block}
use Rattle.fips180.proofs.Closing.{length_kept}
use Rattle.secure_hash.proofs.compress_last.Goals as goal

pub returns : goal.returns
returns g c =
    let a = c.args in
    let compress = g.H.Hash.compress in
    let put = c.put_length.ensures in
    c.compress_blocks.ensures ∙ one_block compress _ _ (length_kept a.block.now a.count c.requires put) ∙ ap (compress a.value.now) put
