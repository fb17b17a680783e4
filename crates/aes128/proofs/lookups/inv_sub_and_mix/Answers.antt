use borrow.Author.Rules.{rules}
use Rattle.aes128.proofs.lookups.Sums.{inv_mix_by}
use Rattle.aes128.proofs.lookups.inv_sub_and_mix.Goals as goal

pub returns : goal.returns
returns c = inv_mix_by c.args.w (λ i. search rules) _ _ c.each_unmixed.ensures c.sum.ensures
