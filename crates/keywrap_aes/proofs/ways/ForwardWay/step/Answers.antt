use Rattle.keywrap_aes.proofs.ways.Counts.{wrap_by}
use borrow.Author.Rules.{rules}
use Rattle.keywrap_aes.proofs.ways.ForwardWay.step.Goals as goal

pub returns : goal.returns
returns c = wrap_by _ _ (search rules) _ _ _ c.encrypt.ensures c.add_count.ensures
