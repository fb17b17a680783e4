-- `negotiation::play_reply` is safe and ends: the count that the server answers lies within its buffer.
use mathlib.Core.Path.{sym}
use native.Mathlib.Omega.{arith}
use lib.Seq.{length-take-le}
use Rattle.offer_rules.proofs.Rounds.{wrote_fits}
use Rattle.negotiation.proofs.play_reply.Goals as goal

pub slice_bounds-renewed-end : goal.slice_bounds-renewed-end
slice_bounds-renewed-end g c =
    let within = wrote_fits _ _ _ _ (sym c.in-Ok.ensures.answer) in
    let kept = c.answer.auto.out in
    omega arith

pub slice_bounds-sent-end : goal.slice_bounds-sent-end
slice_bounds-sent-end g c =
    let within = wrote_fits _ _ _ _ (sym c.in-Ok.ensures.answer) in
    let kept = c.answer.auto.out in
    sym (length-take-le _ _ (omega arith))
