use Rattle.aes128.proofs.keys.Expansion.{next_words}
use Rattle.aes128.proofs.keys.next_key.Goals as goal

pub returns : goal.returns
returns c =
    let s = c.args in
    next_words s.k s.c _ _ _ _ _ c.key_core.ensures c.add_column-w0.ensures c.add_column-w1.ensures c.add_column-w2.ensures
    c.add_column-w3.ensures
