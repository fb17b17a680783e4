-- Where the count is told, the attributes pass and it is theirs, so that there are not many.
use Rattle.std.proofs.Common.{◌≡◌, ◌+◌, length, ap, ◌∙◌, arith}
use Rattle.refusal.specs.Answers.{answer_of, refused, reason_of}
use Rattle.refusal.proofs.Answering.{passed, told_count, told_refusal}
use Rattle.refusal.proofs.Passing.{test_passed}
use borrow.Author.Tests.{leb-true}
use Rattle.bundle_rules.specs.Bundle.{contents_end, packed, packed_check}
use Rattle.bundle_writer.proofs.Parts.{count-length}
use Rattle.bundle_writer.proofs.Writing.{frames_of, count-high, write_early, write_room, write_refused, write_all}
use Rattle.bundle_writer.proofs.packing.Testing.{stopped}
use Rattle.bundle_writer.proofs.write.Goals as goal

pub returns-in_err-n-clause-answer : goal.returns-in_err-n-clause-answer
returns-in_err-n-clause-answer c =
    let first : answer_of c.from_residual.result ≡ refused (reason_of c.in_err-n.field-0.0) = grind arith in
    first ∙ (write_refused _ c.args.out.now (write_early _ _ (told_refusal _ _ _ c.in_err-n.ensures))).0

pub returns-in_err-n-clause-buffer : goal.returns-in_err-n-clause-buffer
returns-in_err-n-clause-buffer c = (write_refused _ _ (write_early _ _ (told_refusal _ _ _ c.in_err-n.ensures))).1

pub returns-in_err-check_room-clause-answer : goal.returns-in_err-check_room-clause-answer
returns-in_err-check_room-clause-answer c =
    let a = c.args.attributes.now in
    let k = told_count (packed_check a) (length (packed a)) c.in_ok-n.n c.in_ok-n.ensures in
    let contents : 2 + c.lines_length-contents.result ≡ contents_end c.in_ok-n.n = omega (arith, k.1, count-high _ k.0, c.lines_length-contents.ensures) in
    let first : answer_of c.from_residual-in_err-check_room.result ≡ refused (reason_of c.in_err-check_room.field-0.0) = grind arith in
    let s = stopped _ _ c.in_err-check_room.ensures first in
    s.1 ∙ (write_refused _ c.args.out.now (write_room _ _ _ k.0 k.1 (rw contents at s.0))).0

pub returns-in_err-check_room-clause-buffer : goal.returns-in_err-check_room-clause-buffer
returns-in_err-check_room-clause-buffer c =
    let a = c.args.attributes.now in
    let k = told_count (packed_check a) (length (packed a)) c.in_ok-n.n c.in_ok-n.ensures in
    let contents : 2 + c.lines_length-contents.result ≡ contents_end c.in_ok-n.n = omega (arith, k.1, count-high _ k.0, c.lines_length-contents.ensures) in
    let first : answer_of c.from_residual-in_err-check_room.result ≡ refused (reason_of c.in_err-check_room.field-0.0) = grind arith in
    let s = stopped _ _ c.in_err-check_room.ensures first in
    (write_refused a c.args.out.now (write_room _ _ _ k.0 k.1 (rw contents at s.0))).1

pub invariant_of-put_lines : goal.invariant_of-put_lines
invariant_of-put_lines c =
    let a = c.args.attributes.now in
    record { pass = frames_of _ (told_count (packed_check a) (length (packed a)) c.in_ok-n.n c.in_ok-n.ensures).0 }

pub put_lines-requires-clause-contents_value : goal.put_lines-requires-clause-contents_value
put_lines-requires-clause-contents_value c =
    let a = c.args.attributes.now in
    let k = told_count (packed_check a) (length (packed a)) c.in_ok-n.n c.in_ok-n.ensures in
    omega (arith, k.1, count-high _ k.0, c.lines_length-contents.ensures)

pub put_lines-requires-clause-in_bounds : goal.put_lines-requires-clause-in_bounds
put_lines-requires-clause-in_bounds c =
    let fits = leb-true _ _ (test_passed _ _ (passed c.check_room.ensures c.in_ok-check_room.was)) in
    let count = c.copy_at.ensures.fits (omega (arith, fits, ap length c.be16.ensures)) in
    let n = count-length _ _ _ c.in_ok-n.n c.be16.ensures (omega (arith, fits)) count in
    omega (arith, fits, n)

pub returns-clause-answer : goal.returns-clause-answer
returns-clause-answer c =
    let a = c.args.attributes.now in
    let k = told_count (packed_check a) (length (packed a)) c.in_ok-n.n c.in_ok-n.ensures in
    let contents : 2 + c.lines_length-contents.result ≡ contents_end c.in_ok-n.n = omega (arith, k.1, count-high _ k.0, c.lines_length-contents.ensures) in
    let fits = test_passed _ _ (passed c.check_room.ensures c.in_ok-check_room.was) in
    (write_all a c.args.out.now contents k.0 k.1 fits c.be16.ensures c.copy_at.ensures.fits c.put_lines.ensures c.copy_at-2.ensures.fits).0

pub returns-clause-buffer : goal.returns-clause-buffer
returns-clause-buffer c =
    let a = c.args.attributes.now in
    let k = told_count (packed_check a) (length (packed a)) c.in_ok-n.n c.in_ok-n.ensures in
    let contents : 2 + c.lines_length-contents.result ≡ contents_end c.in_ok-n.n = omega (arith, k.1, count-high _ k.0, c.lines_length-contents.ensures) in
    let fits = test_passed _ _ (passed c.check_room.ensures c.in_ok-check_room.was) in
    (write_all a c.args.out.now contents k.0 k.1 fits c.be16.ensures c.copy_at.ensures.fits c.put_lines.ensures c.copy_at-2.ensures.fits).1
