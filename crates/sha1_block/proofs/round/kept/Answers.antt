use Rattle.sha1_block.proofs.round.Functions.{kept_variables, back}
use Rattle.std.proofs.Common.{rules}
use Rattle.sha1_block.proofs.round.kept.Goals as goal

pub returns : goal.returns
returns c =
    let x = c.rotate_left in
    let y = c.rotate_left-2 in
    let z = c.rotate_left-3 in
    kept_variables c.args.h x.result y.result z.result (search rules) (back _ (search rules) x.ensures) (back _ (search rules) y.ensures) (back _ (search rules) z.ensures)
