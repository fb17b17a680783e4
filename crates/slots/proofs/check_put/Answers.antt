use mathlib.Core.Path.{sym, ap, ◌∙◌}
use Prim.Native.Nat.{ℕ}
use lib.Dec.{ltb}
use Rattle.refusal.specs.Checks.{bare, unless}
use Rattle.refusal.proofs.Passing.{second_decides}
use Rattle.slot_rules.specs.Calls.{put_check}
use Rattle.slot_rules.proofs.Stored.{full}
use Rattle.slots.proofs.check_put.Goals as goal

pub returns : goal.returns
unfolding put_check
returns c =
    c.unless.ensures
    ∙ ap (λ (n : ℕ). unless (ltb n 64) (bare 46)) c.lowest_free.ensures
    ∙ sym (full c.args.slots.now c.requires)
    ∙ second_decides _ _ (sym c.in_ok-check_parent.ensures)
