-- The parts as they are put in place.
use native.Mathlib.Omega.{arith}
use Rattle.handover_rules.specs.Handover.{r1_label}
use Rattle.handover.proofs.texts.Texts.{r1-laid}
use Rattle.handover.proofs.texts.r1_text.Goals as goal

pub returns : goal.returns
unfolding r1_label
returns c =
    let a = c.args in
    r1-laid a.spa.now c.requires.spa_len c.copy.ensures (c.copy_at.ensures.fits (omega arith)) a.an_id.now c.requires.an_len
    (c.copy_at-2.ensures.fits (omega arith)) a.ad_id.now c.requires.ad_len (c.copy_at-3.ensures.fits (omega arith))
