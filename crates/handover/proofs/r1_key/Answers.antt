use mathlib.Core.Path.{sym, ap, ◌∙◌}
use native.Mathlib.Omega.{arith}
use Rattle.refusal.specs.Checks.{Check}
use Rattle.refusal.specs.Answers.{buffer_after}
use Rattle.handover_rules.specs.Handover as Handover
use Rattle.handover_rules.specs.Handover.{r1_buffer}
use Rattle.handover_rules.proofs.Accepting.{r1_lengths}
use Rattle.handover.proofs.Derived.{r1_put}
use Rattle.handover.proofs.r1_key.Goals as goal

pub r1_text-text-requires-clause-ad_len : goal.r1_text-text-requires-clause-ad_len
r1_text-text-requires-clause-ad_len c =
    let l = r1_lengths _ _ _ _ _ (sym c.in_ok-check_r1.ensures) in omega (arith, l.1, l.2, l.3)

pub r1_text-text-requires-clause-an_len : goal.r1_text-text-requires-clause-an_len
r1_text-text-requires-clause-an_len c =
    let l = r1_lengths _ _ _ _ _ (sym c.in_ok-check_r1.ensures) in omega (arith, l.1, l.2, l.3)

pub r1_text-text-requires-clause-spa_len : goal.r1_text-text-requires-clause-spa_len
r1_text-text-requires-clause-spa_len c =
    let l = r1_lengths _ _ _ _ _ (sym c.in_ok-check_r1.ensures) in omega (arith, l.1, l.2, l.3)

pub derive-requires-clause-in_bounds_2 : goal.derive-requires-clause-in_bounds_2
derive-requires-clause-in_bounds_2 c = (r1_lengths _ _ _ _ _ (sym c.in_ok-check_r1.ensures)).4

pub returns-clause-buffer : goal.returns-clause-buffer
unfolding r1_buffer
returns-clause-buffer c =
    let a = c.args in
    let key = Handover.r1_key a.r0_key.now a.ad_id.now a.an_id.now a.spa.now in
    r1_put a.r0_key.now a.ad_id.now a.an_id.now a.spa.now a.out.now c.new.ensures.inner c.new.ensures.outer c.r1_text-text.ensures c.derive.ensures
    ∙ ap (λ (t : Check). buffer_after t 32 key a.out.now) c.in_ok-check_r1.ensures
