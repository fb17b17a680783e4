use Rattle.std.proofs.Common.{ap, ◌∙◌, Bool, arith}
use Rattle.refusal.proofs.Answering.{passed}
use Rattle.refusal.proofs.Passing.{second_decides}
use Rattle.refusal.specs.Checks.{bare, unless}
use Rattle.key_frame.specs.KeyFrame.{fields_in}
use Rattle.bundle_rules.proofs.Packing.{sized}
use Rattle.bundle_rules.specs.Bundle.{key_id_in}
use Rattle.bundle_contents.proofs.bundle.check_body.Goals as goal

pub slice_bounds-same_words-end : goal.slice_bounds-same_words-end
slice_bounds-same_words-end c = omega (arith, (sized _ (passed c.check_frame.ensures c.in_ok-check_frame.was)).low)

pub returns : goal.returns
unfolding key_id_in fields_in
returns c =
    c.unless.ensures ∙ ap (λ (b : Bool). unless b (bare 50)) c.same_words.ensures ∙ second_decides _ _ (passed c.check_frame.ensures c.in_ok-check_frame.was)
