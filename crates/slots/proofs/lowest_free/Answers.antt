use Rattle.slots.proofs.Calls.{lowest}
use Rattle.slots.proofs.lowest_free.Goals as goal

pub returns : goal.returns
returns c = lowest c.args.slots.now c.requires
