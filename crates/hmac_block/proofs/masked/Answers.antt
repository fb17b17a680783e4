-- `hmac_block::masked` meets its contract: after j turns, the first j words are those of the masked block (proofs/Masking.antt).
use Rattle.std.proofs.Common.{◌≡◌, length, arith, rules}
use Rattle.hmac_block.proofs.Masking.{word_turn, all_turns}
use Rattle.hmac_block.proofs.masked.Goals as goal

pub loop-j-preserved : goal.loop-j-preserved
loop-j-preserved c =
    let l = c.loop-j in
    let k : length c.args.block ≡ 64 = search rules in
    word_turn c.args.block c.args.pad k l.j (omega arith) l.invariant c.mask_word.ensures

pub returns : goal.returns
returns c =
    let e : c.loop-j.j ≡ 16 = omega arith in
    let k : length c.args.block ≡ 64 = search rules in
    all_turns _ _ k e c.loop-j.invariant
