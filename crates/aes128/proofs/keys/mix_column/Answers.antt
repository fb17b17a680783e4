use mathlib.Core.Path.{refl}
use Rattle.aes128.proofs.keys.Words.{mix_by}
use Rattle.aes128.proofs.keys.mix_column.Goals as goal

pub returns : goal.returns
returns c =
    mix_by _ _ c.word-x.ensures.word c.word-x.ensures.column _ _ _ _ _ _ c.turn-t.ensures refl c.double.ensures
    c.turn.ensures c.turn-2.ensures c.column.ensures
