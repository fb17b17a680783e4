use borrow.Author.Rules.{rules}
use Rattle.fips197.specs.State.{inv_mix_column, inv_mix_columns}
use Rattle.aes128.proofs.Fours.{each_column}
use Rattle.aes128.proofs.keys.inv_mix_columns.Goals as goal

pub returns : goal.returns
unfolding inv_mix_columns
returns c = each_column _ (inv_mix_column) (λ p q x y k. search rules) _ _ _ c.map.ensures.items
