use Rattle.sha256_block.proofs.Rounds.{one_more}
use Rattle.sha256_block.proofs.window.round_at.Goals as goal

pub returns : goal.returns
returns c = λ h b. one_more h b c.args.w.now c.args.s c.args.g c.args.j c.requires.1 c.round.ensures
