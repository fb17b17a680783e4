-- `hmac_block::mask_word` meets its contract: the word of the pad masks each of the four bytes (proofs/Masking.antt, `word-written`).
use Rattle.std.proofs.Common.{arith, rules}
use Rattle.hmac_block.proofs.Masking.{word-written}
use Rattle.hmac_block.proofs.mask_word.Goals as goal

pub returns : goal.returns
returns c =
    let a = c.args in
    word-written a.block.now a.i a.pad (λ k. search rules) (omega arith) (omega arith) c.from_be32-word.ensures c.from_be32.ensures c.be32-masked.ensures c.copy_at.ensures.fits
