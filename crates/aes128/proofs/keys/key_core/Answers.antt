use Rattle.aes128.proofs.keys.Expansion.{core_by}
use Rattle.aes128.proofs.keys.key_core.Goals as goal

pub returns : goal.returns
returns c = core_by c.args.w c.sub_word-t.result c.args.c c.sub_word-t.ensures
