-- `offers::peer::is_renewal` meets its contract: the first value, then the others.
use Rattle.std.proofs.Common.{◌∙◌}
use Rattle.offers.proofs.peer.Lists.{nothing_renewed, other_choice, same_choice}
use Rattle.offers.proofs.peer.is_renewal.Goals as goal

pub returns-in-empty : goal.returns-in-empty
returns-in-empty c = nothing_renewed _ _ _ c.in-empty.len_below

pub returns-then-first-choice : goal.returns-then-first-choice
returns-then-first-choice c = c.same_values.ensures ∙ same_choice _ _ _ c.in-len1-up.len_at_least c.if-first-choice.true

pub returns-else-first-choice : goal.returns-else-first-choice
returns-else-first-choice c = other_choice _ _ _ c.in-len1-up.len_at_least c.if-first-choice.false
