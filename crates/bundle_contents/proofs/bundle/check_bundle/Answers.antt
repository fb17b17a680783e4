-- The tests in their order: each exit by the law of Tests that says so, from what the tests before it came to.
use Rattle.std.proofs.Common.{◌≡◌, ℕ, List, ◌-◌, sym, ap, ◌∙◌, arith}
use borrow.Author.Tests.{leb-true, eqb-true}
use native.Mathlib.Nat.{sub-zero}
use Rattle.refusal.specs.Checks.{refuse}
use Rattle.refusal.specs.Answers.{checked_as, reason_of}
use Rattle.refusal.proofs.Answering.{passed}
use Rattle.refusal.proofs.Passing.{test_passed, within-high}
use Rattle.bundle_rules.specs.Bundle.{lines_from}
use Rattle.bundle_contents.specs.Walks.{lines_left}
use Rattle.bundle_contents.proofs.Inside.{inside_all}
use Rattle.bundle_contents.proofs.Tests.{stopped, bundle_short, bundle_miscounted, bundle_cut, bundle_gap, bundle_end, bundle_twice, bundle_bodies}
use Rattle.bundle_contents.proofs.bundle.check_bundle.Goals as goal

-- all the lines of a file
all_lines : (f : List ℕ) (n : ℕ) → lines_from f 0 (n - 0) ≡ lines_from f 0 n
all_lines f n = ap (λ (k : ℕ). lines_from f 0 k) (sub-zero n)

pub returns-in_err-unless : goal.returns-in_err-unless
returns-in_err-unless c =
    let first : checked_as c.from_residual.result ≡ refuse (reason_of c.in_err-unless.field-0.0) = grind arith in
    let s = stopped _ _ c.in_err-unless.ensures first in
    s.1 ∙ sym (bundle_short _ s.0)

pub number_at-requires : goal.number_at-requires
number_at-requires c = leb-true _ _ (test_passed _ _ (passed c.unless.ensures c.in_ok-unless.was))

pub returns-in_err-unless-2 : goal.returns-in_err-unless-2
returns-in_err-unless-2 c =
    let first : checked_as c.from_residual-in_err-unless-2.result ≡ refuse (reason_of c.in_err-unless-2.field-0.0) = grind arith in
    let two = test_passed _ _ (passed c.unless.ensures c.in_ok-unless.was) in
    let s = stopped _ _ c.in_err-unless-2.ensures first in
    s.1 ∙ sym (bundle_miscounted _ _ (c.from-count.ensures ∙ c.number_at.ensures) two (sym c.in_range.ensures ∙ s.0))

pub contents_end-contents-requires : goal.contents_end-contents-requires
contents_end-contents-requires c = within-high 1 64 _ (sym c.in_range.ensures ∙ test_passed _ _ (passed c.unless-2.ensures c.in_ok-unless-2.was))

pub returns-in_err-unless-3 : goal.returns-in_err-unless-3
returns-in_err-unless-3 c =
    let first : checked_as c.from_residual-in_err-unless-3.result ≡ refuse (reason_of c.in_err-unless-3.field-0.0) = grind arith in
    let two = test_passed _ _ (passed c.unless.ensures c.in_ok-unless.was) in
    let range = sym c.in_range.ensures ∙ test_passed _ _ (passed c.unless-2.ensures c.in_ok-unless-2.was) in
    let s = stopped _ _ c.in_err-unless-3.ensures first in
    s.1 ∙ sym (bundle_cut _ _ (c.from-count.ensures ∙ c.number_at.ensures) two range (rw c.contents_end-contents.ensures at s.0))

pub invariant_of-lines : goal.invariant_of-lines
invariant_of-lines c =
    let range = sym c.in_range.ensures ∙ test_passed _ _ (passed c.unless-2.ensures c.in_ok-unless-2.was) in
    let inside = leb-true _ _ (test_passed _ _ (passed c.unless-3.ensures c.in_ok-unless-3.was)) in
    record { few = within-high 1 64 _ range; inside = omega (arith, inside, c.contents_end-contents.ensures); begins = omega arith }

pub returns-in_default : goal.returns-in_default
unfolding lines_left
returns-in_default c =
    let n : ℕ = c.from-count.result in
    let two = test_passed _ _ (passed c.unless.ensures c.in_ok-unless.was) in
    let range = sym c.in_range.ensures ∙ test_passed _ _ (passed c.unless-2.ensures c.in_ok-unless-2.was) in
    let inside = rw c.contents_end-contents.ensures at (test_passed _ _ (passed c.unless-3.ensures c.in_ok-unless-3.was)) in
    let gap = rw c.contents_end-contents.ensures at c.in_default.ensures in
    sym (bundle_gap _ n (c.from-count.ensures ∙ c.number_at.ensures) two range inside (all_lines _ n) gap)

pub returns-in_err-unless-4 : goal.returns-in_err-unless-4
unfolding lines_left
returns-in_err-unless-4 c =
    let n : ℕ = c.from-count.result in
    let first : checked_as c.from_residual-in_err-unless-4.result ≡ refuse (reason_of c.in_err-unless-4.field-0.0) = grind arith in
    let two = test_passed _ _ (passed c.unless.ensures c.in_ok-unless.was) in
    let range = sym c.in_range.ensures ∙ test_passed _ _ (passed c.unless-2.ensures c.in_ok-unless-2.was) in
    let inside = rw c.contents_end-contents.ensures at (test_passed _ _ (passed c.unless-3.ensures c.in_ok-unless-3.was)) in
    let last = rw c.contents_end-contents.ensures at c.in-Some.ensures in
    let s = stopped _ _ c.in_err-unless-4.ensures first in
    s.1 ∙ sym (bundle_end _ n (c.from-count.ensures ∙ c.number_at.ensures) two range inside (all_lines _ n) last.0 last.1 s.0)

pub returns-in_err-unless-5 : goal.returns-in_err-unless-5
unfolding lines_left
returns-in_err-unless-5 c =
    let n : ℕ = c.from-count.result in
    let first : checked_as c.from_residual-in_err-unless-5.result ≡ refuse (reason_of c.in_err-unless-5.field-0.0) = grind arith in
    let two = test_passed _ _ (passed c.unless.ensures c.in_ok-unless.was) in
    let range = sym c.in_range.ensures ∙ test_passed _ _ (passed c.unless-2.ensures c.in_ok-unless-2.was) in
    let inside = rw c.contents_end-contents.ensures at (test_passed _ _ (passed c.unless-3.ensures c.in_ok-unless-3.was)) in
    let last = rw c.contents_end-contents.ensures at c.in-Some.ensures in
    let ending = test_passed _ _ (passed c.unless-4.ensures c.in_ok-unless-4.was) in
    let s = stopped _ _ c.in_err-unless-5.ensures first in
    s.1 ∙ sym (bundle_twice _ n (c.from-count.ensures ∙ c.number_at.ensures) two range inside (all_lines _ n) last.0 last.1 ending c.id_repeats.ensures s.0)

pub check_bodies-requires : goal.check_bodies-requires
unfolding lines_left
check_bodies-requires c =
    let last = c.in-Some.ensures in
    let ending = eqb-true _ _ (test_passed _ _ (passed c.unless-4.ensures c.in_ok-unless-4.was)) in
    inside_all _ _ _ last.0 (sym last.1 ∙ ending)

pub returns : goal.returns
unfolding lines_left
returns c =
    let n : ℕ = c.from-count.result in
    let two = test_passed _ _ (passed c.unless.ensures c.in_ok-unless.was) in
    let range = sym c.in_range.ensures ∙ test_passed _ _ (passed c.unless-2.ensures c.in_ok-unless-2.was) in
    let inside = rw c.contents_end-contents.ensures at (test_passed _ _ (passed c.unless-3.ensures c.in_ok-unless-3.was)) in
    let last = rw c.contents_end-contents.ensures at c.in-Some.ensures in
    let ending = test_passed _ _ (passed c.unless-4.ensures c.in_ok-unless-4.was) in
    let once = test_passed _ _ (passed c.unless-5.ensures c.in_ok-unless-5.was) in
    let tested = bundle_bodies _ n (c.from-count.ensures ∙ c.number_at.ensures) two range inside (all_lines _ n) last.0 last.1 ending c.id_repeats.ensures once in
    c.check_bodies.ensures ∙ sym tested
