use Rattle.aes128.proofs.keys.Words.{premix_by}
use Rattle.aes128.proofs.keys.premix_column.Goals as goal

pub returns : goal.returns
returns c =
    premix_by _ _ c.word-x.ensures.word c.word-x.ensures.column _ _ _ _ _ c.turn.ensures c.turn-2.ensures
    c.double.ensures c.double-2.ensures c.column.ensures
