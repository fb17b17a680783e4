-- `ketvaulo::negotiations::kv_choose_offer` meets its contract: the position of what is asked for has no more than 32 bits.
use Rattle.outcome.proofs.Positions.{handed_round}
use Rattle.ketvaulo.proofs.negotiations.kv_choose_offer.Goals as goal

pub returns : goal.returns
returns c = handed_round c.choose.result _ _ c.into.ensures c.choose.ensures
