use borrow.Author.Rules.{rules}
use Rattle.slots.proofs.BitLaws.{length_mapped}
use Rattle.slot_rules.specs.Stored.{Fits}
use Rattle.slots.proofs.Calls.{counted}
use Rattle.slots.proofs.live.Goals as goal

pub returns : goal.returns
returns c = let f : Fits c.args.slots = search (rules, length_mapped) in counted c.args.slots f
