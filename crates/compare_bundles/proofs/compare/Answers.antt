-- `compare_bundles::compare` is safe and ends: the entries that are listed are within the buffer lent for them.
use Prim.Native.Nat.{ℕ, ◌≤◌}
use mathlib.Core.Path.{◌≡◌, sym}
use mathlib.Core.Bool.{true}
use mathlib.Core.List.{List}
use borrow.Author.Tests.{leb-true}
use native.Mathlib.Omega.{arith}
use lib.Dec.{leb}
use lib.Seq.{length-take-le}
use Rattle.refusal.specs.Checks.{◌and_then◌, check6}
use Rattle.refusal.specs.Answers.{returned}
use Rattle.refusal.proofs.Passing.{last-passed, test_passed}
use Rattle.refusal.proofs.Answering.{told_count}
use Rattle.bundle_rules.specs.Bundle.{bundle_check}
use Rattle.compare_rules.specs.Compare.{entries_length, compare_check, compare_answer}
use Rattle.compare_bundles.proofs.compare.Goals as goal

-- a list that was written is within the room
within_room : (first second : List ℕ) (room n : ℕ) → returned n ≡ compare_answer first second room → n ≤ room
unfolding compare_answer compare_check
within_room first second room n e =
    let told = told_count (compare_check first second room) (entries_length first second) n e in
    let fits : leb (entries_length first second) room ≡ true =
    test_passed _ _ (last-passed (bundle_check first and_then bundle_check second) (check6 (entries_length first second) room) told.0) in
    omega (arith, told.1, leb-true (entries_length first second) room fits)

pub overflow_add-entries : goal.overflow_add-entries
overflow_add-entries g c = omega (arith, within_room _ _ _ _ c.in-Ok.ensures.answer)

pub overflow_add-entries-in-Ok : goal.overflow_add-entries-in-Ok
overflow_add-entries-in-Ok g c = omega (arith, within_room _ _ _ _ c.in-Ok.ensures.answer)

pub slice_bounds-out-end : goal.slice_bounds-out-end
slice_bounds-out-end g c =
    let kept = c.compare_bundles.auto.out in
    omega (arith, within_room _ _ _ _ c.in-Ok.ensures.answer)

pub slice_bounds-write_entries-end : goal.slice_bounds-write_entries-end
slice_bounds-write_entries-end g c =
    let kept = c.compare_bundles.auto.out in
    sym (length-take-le _ _ (omega (arith, within_room _ _ _ _ c.in-Ok.ensures.answer)))
