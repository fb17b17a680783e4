use Rattle.sha1_block.proofs.round.Functions.{rotated_ch}
use Rattle.std.proofs.Common.{rules}
use Rattle.sha1_block.proofs.round.FirstKind.of.Goals as goal

pub returns : goal.returns
returns c =
    let a = c.args in
    rotated_ch a.x a.y a.z (search rules) (search rules) (search rules) c.rotate_left.ensures c.rotate_left-2.ensures
