-- What acceptance says of a request: the lengths of its key and its identifiers, and the room.
use Prim.Native.Nat.{ℕ, ◌≤◌}
use mathlib.Core.Path.{◌≡◌}
use mathlib.Core.List.{List}
use borrow.Author.Tests.{eqb-true, leb-true}
use lib.ListN.{length}
use Rattle.refusal.specs.Checks.{Check, pass, ◌and_then◌, check6}
use Rattle.refusal.proofs.Passing.{before-passed, last-passed, test_passed}
use Rattle.handover_rules.specs.Handover.{check33, check34, r0_check, r1_check, r0_name_check}

-- a key's test that passes, that of an identifier after other tests, and that of the room as the last one
key-passed : (n : ℕ) (key : List ℕ) → check33 n key ≡ pass → length key ≡ n
key-passed n key e = eqb-true (length key) n (test_passed _ _ e)

id-passed : (a : Check) (n : ℕ) (id : List ℕ) → (a and_then check34 n id) ≡ pass → length id ≡ n
id-passed a n id e = eqb-true (length id) n (test_passed _ _ (last-passed a (check34 n id) e))

room_passed : (a : Check) (n room : ℕ) → (a and_then check6 n room) ≡ pass → n ≤ room
room_passed a n room e = leb-true n room (test_passed _ _ (last-passed a (check6 n room) e))

pub r0_lengths : (rrk ad spa : List ℕ) (room : ℕ) → r0_check rrk ad spa room ≡ pass → (length rrk ≡ 64) × (length ad ≡ 16) × (length spa ≡ 6) × (32 ≤ room)
unfolding r0_check
r0_lengths rrk ad spa room e =
    let s = before-passed _ _ e in
    let a = before-passed _ _ s in
    (key-passed 64 rrk (before-passed _ _ a), id-passed _ 16 ad a, id-passed _ 6 spa s, room_passed _ 32 room e)

pub r1_lengths : (r0 ad an spa : List ℕ) (room : ℕ) → r1_check r0 ad an spa room ≡ pass
    → (length r0 ≡ 32) × (length ad ≡ 16) × (length an ≡ 16) × (length spa ≡ 6) × (32 ≤ room)
unfolding r1_check
r1_lengths r0 ad an spa room e =
    let s = before-passed _ _ e in
    let n = before-passed _ _ s in
    let a = before-passed _ _ n in
    (key-passed 32 r0 (before-passed _ _ a), id-passed _ 16 ad a, id-passed _ 16 an n, id-passed _ 6 spa s, room_passed _ 32 room e)

pub name-lengths : (r0 ad spa : List ℕ) (room : ℕ) → r0_name_check r0 ad spa room ≡ pass → (length r0 ≡ 32) × (length ad ≡ 16) × (length spa ≡ 6) × (16 ≤ room)
unfolding r0_name_check
name-lengths r0 ad spa room e =
    let s = before-passed _ _ e in
    let a = before-passed _ _ s in
    (key-passed 32 r0 (before-passed _ _ a), id-passed _ 16 ad a, id-passed _ 6 spa s, room_passed _ 16 room e)
