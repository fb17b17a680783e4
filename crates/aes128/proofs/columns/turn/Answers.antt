use mathlib.Core.Path.{◌∙◌}
use native.Mathlib.Omega.{arith}
use Rattle.aes128.proofs.columns.Words.{turned_by}
use Rattle.aes128.proofs.columns.turn.Goals as goal

pub returns : goal.returns
returns c = c.rotate_right.ensures ∙ turned_by c.args.x (omega arith)
