-- `ketvaulo::areas::read` meets its contract: the count of the offers has no more than 32 bits.
use Rattle.outcome.proofs.Counts.{handed_area}
use Rattle.ketvaulo.proofs.areas.read.Goals as goal

pub returns-clause-answer : goal.returns-clause-answer
returns-clause-answer c = handed_area c.read_area.result _ _ _ _ c.into.ensures c.read_area.ensures.answer
