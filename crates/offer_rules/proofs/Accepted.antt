-- What an answer that is no refusal says: that the tests behind it passed, and what the answer names.
use Prim.Native.Nat.{ℕ, zero, suc, ◌<◌}
use mathlib.Core.Path.{◌≡◌, refl}
use mathlib.Core.List.{List}
use native.Mathlib.Omega.{arith}
use lib.ListN.{get_or}
use Rattle.refusal.specs.Checks.{Check, pass, refuse}
use Rattle.refusal.specs.Answers.{returned, answer_to}
use Rattle.offer_rules.specs.Answers.{ask, first_round_to, accepted, renewed_to}

-- what is asked for is the offer at a position after the first
pub asked_at : (c : Check) (offers : List ℕ) (i : ℕ) {value position : ℕ} → first_round_to c offers i ≡ ask value position
    → (c ≡ pass) × (0 < i) × (value ≡ get_or offers i 0)
asked_at pass offers zero e = let z : ◌≡◌ {A = ℕ} 0 1 = cc in (refl, omega arith, cc)
asked_at pass offers (suc i) e = (refl, omega arith, cc)
asked_at (refuse x) offers i e = let z : ◌≡◌ {A = ℕ} 0 1 = cc in (cc, omega arith, cc)

pub answer_passed : (c : Check) (n : ℕ) {m : ℕ} → answer_to c n ≡ returned m → (c ≡ pass) × (m ≡ n)
answer_passed pass n e = (refl, cc)
answer_passed (refuse x) n e = (cc, cc)

pub renewed_passed : (c : Check) (choice : ℕ) {value : ℕ} → renewed_to c choice ≡ accepted value → (c ≡ pass) × (value ≡ choice)
renewed_passed pass choice e = (refl, cc)
renewed_passed (refuse x) choice e = (cc, cc)
