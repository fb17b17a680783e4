use borrow.Author.Rules.{rules}
use Rattle.aes128.proofs.lookups.Sums.{mix_by}
use Rattle.aes128.proofs.lookups.sub_and_mix.Goals as goal

pub returns : goal.returns
returns c = mix_by c.args.w (λ i. search rules) _ _ c.each_mixed.ensures c.sum.ensures
