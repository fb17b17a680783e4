-- `key_frame::check_length` meets its contract: fewer than 60 bytes are no attribute; of more the two tests are the definition's.
use mathlib.Core.Path.{ap, ◌∙◌}
use mathlib.Core.Bool.{Bool}
use Rattle.refusal.specs.Checks.{bare, unless}
use Rattle.key_frame.proofs.Frames.{no_length, length_of}
use Rattle.key_frame.proofs.check_length.Goals as goal

pub returns-then-n-lt60-clause-test : goal.returns-then-n-lt60-clause-test
unfolding unless
returns-then-n-lt60-clause-test c = ap (λ (t : Bool). unless t (bare 24)) (no_length c.args.attribute.now c.if-n-lt60.true)

pub returns-clause-test : goal.returns-clause-test
returns-clause-test c =
    c.unless.ensures ∙ ap (λ (t : Bool). unless t (bare 24)) (length_of _ _ _ c.if-n-lt60.false c.from.ensures c.is_wrappable.ensures)
