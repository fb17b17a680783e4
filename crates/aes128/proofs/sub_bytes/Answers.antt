use borrow.Author.Rules.{rules}
use Rattle.aes_sbox.specs.Sbox.{sbox_of}
use Rattle.fips197.specs.State.{bytes, sub_bytes}
use Rattle.aes128.proofs.Fours.{each_column}
use Rattle.aes128.proofs.sub_bytes.Goals as goal

pub returns : goal.returns
unfolding sub_bytes
returns c = each_column _ (bytes sbox_of) (λ p q x y k. search rules) _ _ _ c.map.ensures.items
