-- What a call's lengths keep to where its tests pass.
use Prim.Native.Nat.{ℕ, ◌≤◌}
use mathlib.Core.Path.{◌≡◌, sym}
use borrow.Author.Tests.{leb-true}
use Rattle.std.specs.Prelude.{⊤, Result, Ok, Err, OnOk}
use Rattle.refusal.specs.Checks.{check6}
use Rattle.refusal.specs.Answers.{checked_as}
use Rattle.refusal.specs.declared.Refusal.{Refusal}
use Rattle.refusal.proofs.Passing.{test_passed}

-- where the test of the room passes there is room, and what held before it still does
pub with_room : {A : Type 0} (r : Result ⊤ Refusal) (n room : ℕ) → checked_as r ≡ check6 n room → A → OnOk r (A × (n ≤ room))
with_room (Ok u) n room e a = (a, leb-true n room (test_passed _ _ (sym e)))
with_room (Err x) n room e a = tt
