-- The parts as they are put in place.
use native.Mathlib.Omega.{arith}
use Rattle.handover_rules.specs.Handover.{r0_label}
use Rattle.handover.proofs.texts.Texts.{r0_laid}
use Rattle.handover.proofs.texts.r0_text.Goals as goal

pub returns : goal.returns
unfolding r0_label
returns c =
    let a = c.args in
    r0_laid a.spa.now c.requires.spa_len c.copy.ensures (c.copy_at.ensures.fits (omega arith)) a.ad_id.now c.requires.ad_len
    (c.copy_at-2.ensures.fits (omega arith))
