use Rattle.sha1_block.proofs.round.Functions.{rotated_parity}
use Rattle.std.proofs.Common.{rules}
use Rattle.sha1_block.proofs.round.parity.Goals as goal

pub returns : goal.returns
returns c =
    let a = c.args in
    rotated_parity a.x a.y a.z (search rules) (search rules) (search rules) c.rotate_left.ensures
