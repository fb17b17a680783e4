use Rattle.std.proofs.Common.{◌≡◌, refl, ◌∙◌, arith}
use Rattle.refusal.specs.Checks.{refuse}
use Rattle.refusal.specs.Answers.{checked_as, reason_of}
use Rattle.refusal.proofs.Answering.{passed}
use Rattle.bundle_contents.proofs.Inside.{inside_first}
use Rattle.bundle_contents.proofs.Walking.{body_told, bodies_stop, bodies_on, bodies_done}
use Rattle.bundle_contents.proofs.bundle.check_bodies.Goals as goal

pub loop-line-preserved : goal.loop-line-preserved
loop-line-preserved c =
    let on = c.in-Some.ensures.steps in
    let i = c.loop-line.invariant in
    let body = body_told on c.from-start.ensures c.from.ensures _ in
    ((inside_first on i.0).1, bodies_on _ on body c.check_body.ensures i.1 (passed refl c.in_ok-check_body.was))

pub returns-in_err-check_body : goal.returns-in_err-check_body
returns-in_err-check_body c =
    let on = c.in-Some.ensures.steps in
    let first : checked_as c.from_residual.result ≡ refuse (reason_of c.in_err-check_body.field-0.0) = grind arith in
    first ∙ bodies_stop _ on (body_told on c.from-start.ensures c.from.ensures _) c.in_err-check_body.ensures c.loop-line.invariant.1 refl

pub returns : goal.returns
returns c = bodies_done _ c.in-None.ensures.steps.0 c.loop-line.invariant.1
