-- `ketvaulo::key_attributes::kv_read_key_attribute` meets its contract: the length of a key that is read has no more than 32 bits.
use Rattle.outcome.proofs.KeyLengths.{handed_key}
use Rattle.ketvaulo.proofs.key_attributes.kv_read_key_attribute.Goals as goal

pub returns-clause-answer : goal.returns-clause-answer
returns-clause-answer c = handed_key c.read.result _ _ _ c.into.ensures c.read.ensures.answer
