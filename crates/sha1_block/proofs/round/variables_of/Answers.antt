use Rattle.std.proofs.Common.{[], ◌∷◌, get_or}
use Rattle.sha1_block.specs.Internal.{variables}
use Rattle.sha1_block.proofs.round.variables_of.Goals as goal

pub returns : goal.returns
unfolding variables
returns c =
    let h = c.args.s in
    λ i. get_or h 0 0 ∷ get_or h 1 0 ∷ c.rotate_left.ensures i ∷ c.rotate_left-2.ensures i ∷ c.rotate_left-3.ensures i ∷ []
