-- What a key's length that passes 23 keeps to, and a copy that fills a part: for both calls.
use mathlib.Core.Path.{◌≡◌, ap₂, ◌∙◌}
use mathlib.Core.List.{List, ◌++◌, append-nil}
use Prim.Native.Nat.{ℕ, ◌%◌, ◌≤◌}
use native.Mathlib.Omega.{arith}
use lib.Dec.{eqb}
use lib.ListN.{length, take, drop, drop_of_length-le}
use lib.Seq.{take_all}
use Rattle.refusal.specs.Checks.{pass, within}
use Rattle.refusal.proofs.Passing.{test_passed, within_low, within-high}
use Rattle.slices.proofs.Truth.{and_left}
use Rattle.keywrap.specs.Calls.{wrappable, check23}

-- what a length that passes keeps to
pub passed-high : (n : ℕ) → check23 n ≡ pass → n ≤ 192
unfolding wrappable
passed-high n e = within-high 16 192 n (and_left (within 16 192 n) (eqb (n % 8) 0) (test_passed _ _ e))

pub passed-low : (n : ℕ) → check23 n ≡ pass → 16 ≤ n
unfolding wrappable
passed-low n e = within_low 16 192 n (and_left (within 16 192 n) (eqb (n % 8) 0) (test_passed _ _ e))

pub passed_bounds : (n : ℕ) → check23 n ≡ pass → (16 ≤ n) × (n ≤ 192)
passed_bounds n e = (passed-low n e, passed-high n e)

-- a copy over a part as long as what is copied
pub copied_whole : (s d : List ℕ) (r : List ℕ) → length d ≡ length s → r ≡ take (length d) s ++ drop (length s) d → r ≡ s
copied_whole s d r e h =
    let le : length d ≤ length s = omega arith in
    let ge : length s ≤ length d = omega arith in
    h ∙ ap₂ (λ (l m : List ℕ). l ++ m) (take_all (length d) s ge) (drop_of_length-le d le) ∙ append-nil s
