use Rattle.keywrap_aes.proofs.ways.Counts.{unwrap_by}
use borrow.Author.Rules.{rules}
use Rattle.keywrap_aes.proofs.ways.BackWay.step.Goals as goal

pub returns : goal.returns
returns c = unwrap_by _ _ (search rules) c.args.s _ _ c.add_count.ensures c.decrypt.ensures
