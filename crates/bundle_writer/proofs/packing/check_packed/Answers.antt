use Rattle.std.proofs.Common.{◌≡◌, sym, ◌∙◌, arith}
use Rattle.refusal.specs.Answers.{answer_of, refused, reason_of}
use Rattle.refusal.proofs.Answering.{passed}
use Rattle.refusal.proofs.Passing.{test_passed}
use Rattle.bundle_writer.proofs.packing.Testing.{stopped, packed_frames, packed-miscounted, packed-twice, packed-passes}
use Rattle.bundle_writer.proofs.packing.check_packed.Goals as goal

pub returns-in_err-bodies : goal.returns-in_err-bodies
returns-in_err-bodies c =
    let first : answer_of c.from_residual.result ≡ refused (reason_of c.in_err-bodies.field-0.0) = grind arith in
    first ∙ packed_frames _ c.in_err-bodies.ensures

pub returns-in_err-unless : goal.returns-in_err-unless
returns-in_err-unless c =
    let first : answer_of c.from_residual-in_err-unless.result ≡ refused (reason_of c.in_err-unless.field-0.0) = grind arith in
    let b = c.in_ok-bodies.bodies in
    let e = c.in_ok-bodies.ensures in
    let s = stopped _ _ c.in_err-unless.ensures first in
    s.1 ∙ packed-miscounted c.args.bytes.now (rw e.0 at b.pass) e.1 (sym c.in_range.ensures ∙ s.0)

pub returns-in_err-unless-2 : goal.returns-in_err-unless-2
returns-in_err-unless-2 c =
    let first : answer_of c.from_residual-in_err-unless-2.result ≡ refused (reason_of c.in_err-unless-2.field-0.0) = grind arith in
    let b = c.in_ok-bodies.bodies in
    let e = c.in_ok-bodies.ensures in
    let range = sym c.in_range.ensures ∙ test_passed _ _ (passed c.unless.ensures c.in_ok-unless.was) in
    let s = stopped _ _ c.in_err-unless-2.ensures first in
    s.1 ∙ packed-twice c.args.bytes.now (rw e.0 at b.pass) e.1 range (rw e.0 at c.id_repeats.ensures) s.0

pub returns : goal.returns
returns c =
    let b = c.in_ok-bodies.bodies in
    let e = c.in_ok-bodies.ensures in
    let range = sym c.in_range.ensures ∙ test_passed _ _ (passed c.unless.ensures c.in_ok-unless.was) in
    let once = test_passed _ _ (passed c.unless-2.ensures c.in_ok-unless-2.was) in
    packed-passes c.args.bytes.now (rw e.0 at b.pass) e.1 range (rw e.0 at c.id_repeats.ensures) once
