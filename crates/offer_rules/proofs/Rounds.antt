-- Laws of the answers: the first round's by the position of the offer that is taken and by what the tests 10 and 11 came to, and the server's count.
use Prim.Native.Nat.{ℕ, zero, suc, ◌+◌, ◌≤◌}
use mathlib.Core.Path.{◌≡◌, refl}
use mathlib.Core.List.{List}
use native.Mathlib.Omega.{arith}
use borrow.Author.Tests.{leb-true}
use lib.ListN.{length, get_or}
use Rattle.refusal.specs.Checks.{check6, pass, ◌and_then◌}
use Rattle.refusal.specs.Answers.{returned}
use Rattle.refusal.proofs.Passing.{second_decides, last-passed, test_passed}
use Rattle.offer_rules.specs.Rfc5448.{first_supported, check10, check11, check12, check13, check14, choose_check, answer_check}
use Rattle.offer_rules.specs.Answers.{carry_on, ask, first_round_at, first_round_to, first_round, server_answer}
use Rattle.offer_rules.proofs.Accepted.{answer_passed}

pub at_first : (offers : List ℕ) (i : ℕ) → i ≡ 0 → carry_on (get_or offers i 0) ≡ first_round_at offers i
at_first offers i e = rw e

pub at_later : (offers : List ℕ) (i : ℕ) → (i ≡ 0 → ⊥) → ask (get_or offers i 0) i ≡ first_round_at offers i
at_later offers zero ne = elim (ne refl) [ ]
at_later offers (suc i) ne = refl

module _ (offers supported : List ℕ) where
  pub list_passed : (check10 offers and_then check11 offers) ≡ pass → first_round_to (check12 offers supported) offers (first_supported offers supported) ≡ first_round offers supported
  unfolding first_round choose_check
  list_passed e = rw (← second_decides _ (check12 offers supported) e)

-- the server writes no more than fits
pub wrote_fits : (offers buffer : List ℕ) (value count : ℕ) → server_answer offers value buffer ≡ returned count → count ≤ length buffer
unfolding server_answer answer_check
wrote_fits offers buffer value count e =
    let p = answer_passed (answer_check offers value (length buffer)) (length offers + 1) e in
    let earlier = check10 offers and_then check11 offers and_then check13 offers value and_then check14 offers value in
    let room = leb-true (length offers + 1) (length buffer) (test_passed _ _ (last-passed earlier (check6 (length offers + 1) (length buffer)) p.0)) in
    omega arith
