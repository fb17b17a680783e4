-- What an expansion's tests say where they pass.
use Prim.Native.Nat.{ℕ, ◌≤◌}
use mathlib.Core.Path.{◌≡◌}
use borrow.Author.Tests.{leb-true}
use Rattle.refusal.specs.Checks.{pass}
use Rattle.refusal.proofs.Passing.{before-passed, last-passed, test_passed, within_low, within-high}
use Rattle.prf_plus.specs.PrfPlus.{expand_check}

pub record Bounds (n room : ℕ) : Type 0 where
  pub some : 1 ≤ n
  pub most : n ≤ 8160
  pub fits : n ≤ room

pub expand_passed : (n room : ℕ) → expand_check n room ≡ pass → Bounds n room
unfolding expand_check
expand_passed n room e =
    let w = test_passed _ _ (before-passed _ _ e) in
    record { some = within_low 1 8160 n w; most = within-high 1 8160 n w; fits = leb-true n room (test_passed _ _ (last-passed _ _ e)) }
