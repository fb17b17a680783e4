-- What is written fits into a buffer that the test of the room passes.
use Rattle.std.proofs.Common.{◌≡◌, ℕ, ◌≤◌, List, length, take}
use lib.Seq.{length-take-le}
use borrow.Author.Tests.{leb-true}
use Rattle.std.specs.Prelude.{⊤, Result, Ok}
use Rattle.refusal.specs.Checks.{check6}
use Rattle.refusal.specs.Answers.{checked_as}
use Rattle.refusal.specs.declared.Refusal.{Refusal}
use Rattle.refusal.proofs.Passing.{test_passed}
use Rattle.refusal.proofs.Answering.{passed}

pub room_left : {r : Result ⊤ Refusal} {u : ⊤} (n room : ℕ) → checked_as r ≡ check6 n room → r ≡ Ok u → n ≤ room
room_left n room e p = leb-true n room (test_passed _ _ (passed e p))

pub part_left : {r : Result ⊤ Refusal} {u : ⊤} (n : ℕ) (s : List ℕ) → checked_as r ≡ check6 n (length s) → r ≡ Ok u → length (take n s) ≡ n
part_left n s e p = length-take-le n s (room_left n (length s) e p)
