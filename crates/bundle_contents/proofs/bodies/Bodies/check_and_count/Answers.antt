use Rattle.std.proofs.Common.{ap, refl, arith, rules}
use Rattle.std.proofs.lemmas.Result.{err_from_is_err_and}
use Rattle.refusal.specs.Answers.{checked_as}
use Rattle.refusal.proofs.Answering.{passed}
use Rattle.radius_attributes.proofs.Lengths.{length_fits, length_some}
use Rattle.bundle_contents.proofs.Attributes.{no_bytes, frames_stop, frames_on, frames_end, counted_on, counted_end}
use Rattle.bundle_contents.proofs.bodies.Bodies.check_and_count.Goals as goal

pub split_at-requires : goal.split_at-requires
split_at-requires c = omega (arith, length_fits c.loop-left.left.now, c.first_length.ensures)

pub loop-left-smaller : goal.loop-left-smaller
loop-left-smaller c =
    let some = length_some c.loop-left.left.now (search rules) in
    omega (arith, some, length_fits c.loop-left.left.now, c.first_length.ensures, c.split_at.ensures.back_len)

pub loop-left-preserved : goal.loop-left-preserved
loop-left-preserved c =
    let inv = c.loop-left.invariant in
    let left = c.loop-left.left.now in
    let on = frames_on left (search rules) c.first_length.ensures (rw c.split_at.ensures.front at c.check_frame.ensures) inv.tests (passed refl c.in_ok-check_frame.was) in
    let some = length_some left (search rules) in
    record {
      tests = rw c.split_at.ensures.back on;
      counted = rw c.split_at.ensures.back (counted_on left c.loop-left.count (search rules) c.first_length.ensures inv.counted);
      few = omega (arith, inv.few, some, length_fits left, c.first_length.ensures, c.split_at.ensures.back_len);
    }

pub returns-in_err-check_frame : goal.returns-in_err-check_frame
returns-in_err-check_frame c =
    let p = err_from_is_err_and c.from_residual.result c.from_residual.ensures.1 in
    let told = rw c.split_at.ensures.front at c.check_frame.ensures in
    rw (p.1, p.2) (frames_stop c.loop-left.left.now (search rules) c.first_length.ensures told c.loop-left.invariant.tests (ap checked_as c.in_err-check_frame.was))

pub invariant_of-result : goal.invariant_of-result
invariant_of-result c =
    let empty = no_bytes c.loop-left.left.now (search rules) in
    record { pass = frames_end empty c.loop-left.invariant.tests }

pub returns : goal.returns
returns c =
    let empty = no_bytes c.loop-left.left.now (search rules) in
    (refl, counted_end _ _ empty c.loop-left.invariant.counted)
