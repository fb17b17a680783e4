use borrow.Author.Rules.{rules}
use mathlib.Core.Path.{◌∙◌}
use native.Mathlib.Omega.{arith}
use Rattle.slot_rules.specs.Stored.{Fits}
use Rattle.slot_rules.proofs.Stored.{live_below}
use Rattle.slots.proofs.BitLaws.{length_mapped}
use Rattle.slots.proofs.Calls.{gone_live}
use Rattle.slots.proofs.tree.gone.Goals as goal

pub overflow_cast-number : goal.overflow_cast-number
overflow_cast-number c =
    let f : Fits c.args.slots = search (rules, length_mapped) in
    let h = live_below c.args.slots f c.args.number c.requires in omega arith

pub returns : goal.returns
returns c =
    let f : Fits c.args.slots = search (rules, length_mapped) in
    c.reaching.ensures ∙ gone_live c.args.slots f c.args.number c.all_steps.result c.requires c.all_steps.ensures
