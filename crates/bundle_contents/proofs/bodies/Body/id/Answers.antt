use Rattle.std.proofs.Common.{refl, arith}
use Rattle.key_frame.specs.KeyFrame.{fields_in}
use Rattle.bundle_rules.specs.Bundle.{key_id_in}
use Rattle.bundle_rules.proofs.Packing.{sized}
use Rattle.bundle_contents.proofs.bodies.Body.id.Goals as goal

pub slice_bounds-result-end : goal.slice_bounds-result-end
slice_bounds-result-end c = omega (arith, (sized _ c.args.self.passes).low)

pub returns-clause-id : goal.returns-clause-id
unfolding key_id_in fields_in
returns-clause-id c = refl
