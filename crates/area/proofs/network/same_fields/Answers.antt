-- `area::network::same_fields` meets its contract: the names agree exactly if a field ends in both after the bytes of the shorter and these are the same
-- (`agreed`).
use mathlib.Core.Path.{sym, ◌∙◌}
use Rattle.area.proofs.network.Fronts.{agreed}
use Rattle.area.proofs.network.same_fields.Goals as goal

pub returns-then-field_ends : goal.returns-then-field_ends
returns-then-field_ends c =
    let looked = rw (← c.field_ends.ensures, ← c.field_ends-2.ensures) at (agreed c.args.a.now c.args.b.now c.min-n.result c.min-n.ensures) in
    c.same_start.ensures ∙ sym (rw c.if-field_ends.true at looked)

pub returns-else-field_ends : goal.returns-else-field_ends
returns-else-field_ends c =
    let looked = rw (← c.field_ends.ensures, ← c.field_ends-2.ensures) at (agreed c.args.a.now c.args.b.now c.min-n.result c.min-n.ensures) in
    c.if-field_ends.false ∙ sym (rw c.if-field_ends.false at looked)
