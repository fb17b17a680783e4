use Rattle.bundle_compare.proofs.Finding.{found_there}
use Rattle.bundle_compare.proofs.changes.find.Goals as goal

pub returns : goal.returns
returns c = found_there _ c.args.id.now _ c.find.ensures
