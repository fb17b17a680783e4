use mathlib.Core.Path.{sym, ap, ◌∙◌}
use Rattle.refusal.specs.Checks.{Check}
use Rattle.refusal.specs.Answers.{buffer_after}
use Rattle.handover_rules.specs.Handover as Handover
use Rattle.handover_rules.specs.Handover.{r0_name_buffer}
use Rattle.handover_rules.proofs.Accepting.{name-lengths}
use Rattle.handover.proofs.Names.{name_put}
use Rattle.handover.proofs.r0_name.Goals as goal

pub returns-clause-buffer : goal.returns-clause-buffer
unfolding r0_name_buffer
returns-clause-buffer c =
    let a = c.args in
    let room = (name-lengths _ _ _ _ (sym c.in_ok-check_name.ensures)).3 in
    name_put a.r0_key.now a.ad_id.now a.spa.now a.out.now c.digest_of_parts-hash.ensures room c.copy.ensures
    ∙ ap (λ (t : Check). buffer_after t 16 (Handover.r0_name a.r0_key.now a.ad_id.now a.spa.now) a.out.now) c.in_ok-check_name.ensures
