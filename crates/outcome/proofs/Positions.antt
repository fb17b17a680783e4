-- A position that a first round asks for is one of at most 16, so the 32 bits that C gets hold it.
use Prim.Native.Nat.{ℕ, suc, zero, ◌<◌, ◌^◌}
use mathlib.Core.Path.{◌≡◌, refl, ap, ◌∙◌}
use mathlib.Core.List.{List}
use native.Mathlib.Nat.{mod-eq_of_lt}
use native.Mathlib.Omega.{arith}
use borrow.Author.Tests.{ltb-true}
use lib.ListN.{length, get_or}
use Rattle.refusal.specs.Checks.{Check, pass, refuse}
use Rattle.refusal.proofs.Passing.{before-passed, last-passed, test_passed, within-high}
use Rattle.offer_rules.specs.Rfc5448.{first_supported, choose_check}
use Rattle.offer_rules.specs.Answers.{FirstAnswer, ask, first_round_to, first_round}
use Rattle.std.specs.Prelude.{Result}
use Rattle.refusal.specs.declared.Refusal.{Refusal}
use Rattle.offers.specs.declared.peer.FirstRound.{FirstRound}
use Rattle.offers.specs.Answers.{first_round_of}
use Rattle.outcome.specs.Negotiations.{first_round_outcome}
use Rattle.outcome.specs.Internal.{position_low}
use Rattle.outcome.specs.declared.negotiations.FirstRoundOutcome.{FirstRoundOutcome}

-- whatever the tests came to, the position is that of the offer taken, or there is none
held : (c : Check) (offers : List ℕ) (i : ℕ) → (c ≡ pass → i < 16) → position_low (first_round_to c offers i) ≡ first_round_to c offers i
held pass offers zero h = refl
held pass offers (suc i) h =
    let less = h refl in
    let small : suc i < 2 ^ 32 = omega arith in
    ap (ask (get_or offers (suc i) 0)) (mod-eq_of_lt small)
held (refuse x) offers i h = refl

all_held : (offers supported : List ℕ) → position_low (first_round offers supported) ≡ first_round offers supported
unfolding first_round choose_check
all_held offers supported =
    held (choose_check offers supported) offers (first_supported offers supported)
    (λ p.
    let inside = ltb-true (first_supported offers supported) (length offers) (test_passed _ _ (last-passed _ _ p)) in
    let few = within-high 1 16 (length offers) (test_passed _ _ (before-passed _ _ (before-passed _ _ p))) in
    omega arith)

pub handed_round : {o : FirstRoundOutcome} (w : Result FirstRound Refusal) (offers supported : List ℕ)
    → o ≡ first_round_outcome (position_low (first_round_of w)) → first_round_of w ≡ first_round offers supported → o ≡ first_round_outcome (first_round offers supported)
handed_round w offers supported e h =
    e ∙ ap (λ (a : FirstAnswer). first_round_outcome (position_low a)) h ∙ ap first_round_outcome (all_held offers supported)
