use mathlib.Core.Path.{◌≡◌, sym, ap, ◌∙◌}
use mathlib.Core.Bool.{Bool}
use Rattle.refusal.specs.Checks.{bare, unless}
use Rattle.refusal.proofs.Passing.{test_passed}
use Rattle.refusal.specs.Answers.{checked_as}
use native.Mathlib.Omega.{arith}
use Rattle.slots.proofs.Calls.{test_failed, root_checked, not_live, is_near}
use Rattle.slots.proofs.tree.check_parent.Goals as goal

pub returns-in_err-unless-in-Some : goal.returns-in_err-unless-in-Some
returns-in_err-unless-in-Some c =
    let no = sym c.has_bit.ensures ∙ test_failed c.has_bit.result _ c.in_err-unless-in-Some.ensures in
    let first : checked_as c.from_residual.result ≡ unless c.has_bit.result (bare 48) = grind arith in
    rw c.in-Some.is (first ∙ ap (λ (b : Bool). unless b (bare 48)) c.has_bit.ensures ∙ not_live c.args.slots.now c.requires c.in-Some.p no)

pub returns-in-None : goal.returns-in-None
returns-in-None c = rw c.in-None.is (root_checked c.args.slots.now)

pub returns-in_ok-unless-in-Some : goal.returns-in_ok-unless-in-Some
returns-in_ok-unless-in-Some c =
    let yes = sym c.has_bit.ensures ∙ test_passed c.has_bit.result _ (sym (c.in_ok-unless-in-Some.ensures)) in
    rw c.in-Some.is
    (c.unless-in-Some.ensures
    ∙ ap (λ (b : Bool). unless b (bare 49)) c.root_within_two.ensures
    ∙ is_near c.args.slots.now c.requires c.in-Some.p yes)
