use borrow.Author.Rules.{rules}
use Rattle.aes_sbox.specs.Sbox.{sbox_of}
use Rattle.fips197.specs.State.{bytes, sub_bytes, mix_column, mix_columns}
use Rattle.aes128.proofs.Fours.{each_column}
use Rattle.aes128.proofs.sub_and_mix_columns.Goals as goal

pub returns : goal.returns
unfolding sub_bytes mix_columns
returns c = each_column _ (λ w. mix_column (bytes sbox_of w)) (λ p q x y k. search rules) _ _ _ c.map.ensures.items
