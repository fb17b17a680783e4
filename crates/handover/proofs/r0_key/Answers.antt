use mathlib.Core.Path.{sym, ap, ◌∙◌}
use native.Mathlib.Omega.{arith}
use lib.Seq.{length-take-le}
use Rattle.refusal.specs.Checks.{Check}
use Rattle.refusal.specs.Answers.{buffer_after}
use Rattle.handover_rules.specs.Handover as Handover
use Rattle.handover_rules.specs.Handover.{r0_buffer}
use Rattle.handover_rules.proofs.Accepting.{r0_lengths}
use Rattle.handover.proofs.Derived.{r0_put}
use Rattle.handover.proofs.r0_key.Goals as goal

pub r0_text-text-requires-clause-ad_len : goal.r0_text-text-requires-clause-ad_len
r0_text-text-requires-clause-ad_len c =
    let l = r0_lengths _ _ _ _ (sym c.in_ok-check_r0.ensures) in omega (arith, l.1, l.2)

pub r0_text-text-requires-clause-spa_len : goal.r0_text-text-requires-clause-spa_len
r0_text-text-requires-clause-spa_len c =
    let l = r0_lengths _ _ _ _ (sym c.in_ok-check_r0.ensures) in omega (arith, l.1, l.2)

pub slice_bounds-new-end : goal.slice_bounds-new-end
slice_bounds-new-end c =
    let l = r0_lengths _ _ _ _ (sym c.in_ok-check_r0.ensures) in sym (length-take-le 32 c.args.rrk.now (omega (arith, l.0)))

pub derive-requires-clause-in_bounds_2 : goal.derive-requires-clause-in_bounds_2
derive-requires-clause-in_bounds_2 c = (r0_lengths _ _ _ _ (sym c.in_ok-check_r0.ensures)).3

pub returns-clause-buffer : goal.returns-clause-buffer
unfolding r0_buffer
returns-clause-buffer c =
    let a = c.args in
    let key = Handover.r0_key a.rrk.now a.ad_id.now a.spa.now in
    r0_put a.rrk.now a.ad_id.now a.spa.now a.out.now c.new.ensures.inner c.new.ensures.outer c.r0_text-text.ensures c.derive.ensures
    ∙ ap (λ (t : Check). buffer_after t 32 key a.out.now) c.in_ok-check_r0.ensures
