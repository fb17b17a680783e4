use borrow.Author.Rules.{rules}
use Rattle.aes_sbox.specs.Sbox.{inv_sbox_of}
use Rattle.fips197.specs.State.{bytes, inv_sub_bytes, inv_mix_column, inv_mix_columns}
use Rattle.aes128.proofs.Fours.{each_column}
use Rattle.aes128.proofs.inv_sub_and_mix_columns.Goals as goal

pub returns : goal.returns
unfolding inv_sub_bytes inv_mix_columns
returns c = each_column _ (λ w. inv_mix_column (bytes inv_sbox_of w)) (λ p q x y k. search rules) _ _ _ c.map.ensures.items
