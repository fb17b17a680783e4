-- What the tests of the inputs say of CK and IK.
use Prim.Native.Nat.{ℕ}
use mathlib.Core.Path.{◌≡◌}
use mathlib.Core.List.{List}
use borrow.Author.Tests.{eqb-true}
use lib.Dec.{eqb}
use lib.ListN.{length}
use Rattle.slices.proofs.Truth.{and_left, and_right}
use Rattle.refusal.specs.Checks.{pass}
use Rattle.refusal.proofs.Passing.{before-passed, test_passed}
use Rattle.aka_keys.specs.Rfc5448.{input_check}

-- where they pass, each has 16 bytes
pub key-lengths : (ck ik name sqnXorAk identity : List ℕ) → input_check ck ik name sqnXorAk identity ≡ pass → (length ck ≡ 16) × (length ik ≡ 16)
unfolding input_check
key-lengths ck ik name sqnXorAk identity e =
    let fixed = test_passed _ _ (before-passed _ _ (before-passed _ _ e)) in
    let keys = and_left _ (eqb (length sqnXorAk) 6) fixed in
    (eqb-true _ _ (and_left _ _ keys), eqb-true _ _ (and_right (eqb (length ck) 16) _ keys))
