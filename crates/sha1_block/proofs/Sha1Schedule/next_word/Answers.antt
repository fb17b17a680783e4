use Rattle.fips180.specs.Sha1.{next_w}
use Rattle.sha1_block.proofs.Sha1Schedule.next_word.Goals as goal

pub returns : goal.returns
unfolding next_w
returns c = c.rotate_left.ensures
