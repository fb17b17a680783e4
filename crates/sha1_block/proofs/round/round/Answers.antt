use Rattle.std.proofs.Common.{◌∙◌}
use Rattle.fips180.specs.Sha1.{step}
use Rattle.sha1_block.specs.Internal.{variables, step_by}
use Rattle.sha1_block.proofs.round.Functions.{stepped}
use Rattle.sha1_block.proofs.round.round.Goals as goal

pub returns : goal.returns
unfolding variables step_by
returns g c =
    let s = c.args.s in
    let w = c.args.w in
    stepped s c.of.result c.K.result w c.rotate_left.ensures c.rotate_left-2.ensures ∙ (λ i. step (c.of.ensures i) (c.K.ensures i) w (variables s))
