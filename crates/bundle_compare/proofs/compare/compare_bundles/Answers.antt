-- Both files pass, the arrays hold what changed for their attributes, and the counts are those of the entries.
use Rattle.std.proofs.Common.{◌≡◌, ap, ◌∙◌, arith}
use Rattle.refusal.specs.Answers.{refused, reason_of}
use Rattle.refusal.proofs.Answering.{passed}
use Rattle.refusal.proofs.Passing.{test_passed}
use Rattle.bundle_rules.specs.Bundle.{packed, bodies_of}
use Rattle.compare_rules.specs.Compare.{Tally}
use borrow.Author.Tests.{leb-true}
use Rattle.bundle_compare.specs.Answers.{answer_in, counts_in}
use Rattle.bundle_compare.proofs.Comparing.{stopped, Told, told_by, bytes_long, no_room, compared, refused_first, refused_second, compare_refused}
use Rattle.bundle_compare.proofs.compare.compare_bundles.Goals as goal
use Rattle.bundle_compare.proofs.compare.compare_bundles.Goals.{After-find_changes-2}

told : (c : After-find_changes-2)
    → Told c.args.first.now c.args.second.now c.find_changes.new.changes c.find_changes-2.new.changes
    (packed c.bodies-of_first.result.bytes.now) (packed c.bodies-of_second.result.bytes.now) c.find_changes-2.new.counts
told c =
    let f = c.in_ok-first.first in
    let s = c.in_ok-second.second in
    let m = c.find_changes.ensures in
    let n = c.find_changes-2.ensures in
    rw (c.bodies-of_first.ensures.bodies, c.bodies-of_second.ensures.bodies)
    (told_by _ _ c.find_changes.new.counts c.find_changes-2.new.counts
    (rw c.in_ok-first.ensures at f.passes)
    (rw c.in_ok-second.ensures at s.passes)
    (ap bodies_of c.in_ok-first.ensures)
    (ap bodies_of c.in_ok-second.ensures)
    m.listed n.listed
    (m.only_first, m.changed, m.only_second, n.only_first, n.changed, n.only_second))

pub returns-in_err-first-clause-answer : goal.returns-in_err-first-clause-answer
returns-in_err-first-clause-answer c =
    let out : answer_in c.from_residual.result ≡ refused (reason_of c.in_err-first.field-0.0) = grind arith in
    out ∙ (compare_refused _ _ c.args.out.now (refused_first _ _ _ c.in_err-first.ensures)).0

pub returns-in_err-first-clause-counts : goal.returns-in_err-first-clause-counts
returns-in_err-first-clause-counts c =
    let out : ◌≡◌ {A = Tally} (counts_in c.from_residual.result) (record { only_first = 0; changed = 0; only_second = 0 }) = grind arith in
    out ∙ (compare_refused _ _ c.args.out.now (refused_first _ _ _ c.in_err-first.ensures)).1.0

pub returns-in_err-first-clause-buffer : goal.returns-in_err-first-clause-buffer
returns-in_err-first-clause-buffer c = (compare_refused _ _ c.args.out.now (refused_first _ _ _ c.in_err-first.ensures)).1.1

pub returns-in_err-second-clause-answer : goal.returns-in_err-second-clause-answer
returns-in_err-second-clause-answer c =
    let out : answer_in c.from_residual-in_err-second.result ≡ refused (reason_of c.in_err-second.field-0.0) = grind arith in
    let p = rw c.in_ok-first.ensures at c.in_ok-first.first.passes in
    out ∙ (compare_refused _ _ c.args.out.now (refused_second _ _ _ p c.in_err-second.ensures)).0

pub returns-in_err-second-clause-counts : goal.returns-in_err-second-clause-counts
returns-in_err-second-clause-counts c =
    let out : ◌≡◌ {A = Tally} (counts_in c.from_residual-in_err-second.result) (record { only_first = 0; changed = 0; only_second = 0 }) = grind arith in
    let p = rw c.in_ok-first.ensures at c.in_ok-first.first.passes in
    out ∙ (compare_refused _ _ c.args.out.now (refused_second _ _ _ p c.in_err-second.ensures)).1.0

pub returns-in_err-second-clause-buffer : goal.returns-in_err-second-clause-buffer
returns-in_err-second-clause-buffer c =
    let p = rw c.in_ok-first.ensures at c.in_ok-first.first.passes in
    (compare_refused _ _ c.args.out.now (refused_second _ _ _ p c.in_err-second.ensures)).1.1

pub returns-in_err-check_room-clause-answer : goal.returns-in_err-check_room-clause-answer
returns-in_err-check_room-clause-answer c =
    let t = told (goal.at.returns-in_err-check_room-clause-answer c).After-find_changes-2 in
    let out : answer_in c.from_residual-in_err-check_room.result ≡ refused (reason_of c.in_err-check_room.field-0.0) = grind arith in
    let s = stopped _ _ c.in_err-check_room.ensures in
    out ∙ ap refused s.1 ∙ (compare_refused _ _ c.args.out.now (no_room t _ s.0)).0

pub returns-in_err-check_room-clause-counts : goal.returns-in_err-check_room-clause-counts
returns-in_err-check_room-clause-counts c =
    let t = told (goal.at.returns-in_err-check_room-clause-counts c).After-find_changes-2 in
    let out : ◌≡◌ {A = Tally} (counts_in c.from_residual-in_err-check_room.result) (record { only_first = 0; changed = 0; only_second = 0 }) = grind arith in
    out ∙ (compare_refused _ _ c.args.out.now (no_room t _ (stopped _ _ c.in_err-check_room.ensures).0)).1.0

pub returns-in_err-check_room-clause-buffer : goal.returns-in_err-check_room-clause-buffer
returns-in_err-check_room-clause-buffer c =
    let t = told (goal.at.returns-in_err-check_room-clause-buffer c).After-find_changes-2 in
    (compare_refused _ _ c.args.out.now (no_room t _ (stopped _ _ c.in_err-check_room.ensures).0)).1.1

pub put_entries-end-requires : goal.put_entries-end-requires
put_entries-end-requires c =
    let t = told (goal.at.put_entries-end-requires c).After-find_changes-2 in
    let fits = leb-true _ _ (test_passed _ _ (passed c.check_room.ensures c.in_ok-check_room.was)) in
    omega (arith, fits, bytes_long t)

pub put_entries-requires : goal.put_entries-requires
put_entries-requires c =
    let t = told (goal.at.put_entries-requires c).After-find_changes-2 in
    let fits = leb-true _ _ (test_passed _ _ (passed c.check_room.ensures c.in_ok-check_room.was)) in
    let kept = c.put_entries-end.auto.out in
    omega (arith, fits, bytes_long t, c.put_entries-end.ensures.end)

pub returns-clause-answer : goal.returns-clause-answer
returns-clause-answer c =
    let t = told (goal.at.returns-clause-answer c).After-find_changes-2 in
    let fits = test_passed _ _ (passed c.check_room.ensures c.in_ok-check_room.was) in
    let m = c.put_entries-end.ensures in
    let n = c.put_entries.ensures in
    (compared t c.args.out.now _ _ fits (m.end, m.buffer) (n.end, n.buffer)).0

pub returns-clause-counts : goal.returns-clause-counts
returns-clause-counts c =
    let t = told (goal.at.returns-clause-counts c).After-find_changes-2 in
    let fits = test_passed _ _ (passed c.check_room.ensures c.in_ok-check_room.was) in
    let m = c.put_entries-end.ensures in
    let n = c.put_entries.ensures in
    (compared t c.args.out.now _ _ fits (m.end, m.buffer) (n.end, n.buffer)).1.0

pub returns-clause-buffer : goal.returns-clause-buffer
returns-clause-buffer c =
    let t = told (goal.at.returns-clause-buffer c).After-find_changes-2 in
    let fits = test_passed _ _ (passed c.check_room.ensures c.in_ok-check_room.was) in
    let m = c.put_entries-end.ensures in
    let n = c.put_entries.ensures in
    (compared t c.args.out.now _ _ fits (m.end, m.buffer) (n.end, n.buffer)).1.1
