use mathlib.Core.Path.{ap, ◌∙◌}
use Rattle.rfc3394.specs.Rfc3394.{high, low}
use Rattle.keywrap_aes.proofs.passes.Parts.{step_by}
use Rattle.keywrap_aes.proofs.passes.step.Goals as goal

pub returns : goal.returns
returns g c =
    let s = c.args in
    let e = step_by (g.W.Way.step s.ks.now s.t) (g.met.W.Way.by_bytes s.ks.now s.t) s.a c.front-r.result _ s.b.now c.front-r.ensures c.step-s.ensures in
    record { next = ap high e; part = c.copy_from_slice.ensures.after ∙ c.eight_bytes.ensures ∙ ap low e }
