use mathlib.Core.Path.{◌∙◌}
use Rattle.aes128.proofs.columns.Words.{added_columns}
use Rattle.aes128.proofs.columns.add_column.Goals as goal

pub returns : goal.returns
returns c = c.column.ensures ∙ added_columns _ _ _ _ c.word.ensures.column c.word-2.ensures.column
