use Rattle.std.proofs.Common.{List, ℕ, ap, ◌∙◌}
use Rattle.bundle_rules.specs.Bundle.{packed, frames_check}
use Rattle.bundle_contents.proofs.Accepted.{bodies_packed, frames_pass, bodies_few}
use Rattle.bundle_contents.proofs.bundle.Bundle.bodies.Goals as goal

pub invariant_of-result : goal.invariant_of-result
invariant_of-result c = record { pass = ap (λ (l : List ℕ). frames_check (packed l)) c.attributes.ensures ∙ frames_pass _ c.args.self.passes }

pub returns-clause-bodies : goal.returns-clause-bodies
returns-clause-bodies c = ap packed c.attributes.ensures ∙ bodies_packed _ c.args.self.passes

pub returns-clause-few : goal.returns-clause-few
returns-clause-few c = rw c.attributes.ensures (bodies_few _ c.args.self.passes)
