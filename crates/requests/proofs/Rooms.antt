-- A key of 64 bytes: the expansion's tests come to that of the room alone, so the tests before them and these are one chain.
use Prim.Native.Nat.{ℕ}
use mathlib.Core.Path.{◌≡◌, refl}
use mathlib.Core.List.{List}
use lib.ListN.{length}
use Rattle.refusal.specs.Checks.{Check, unless, ◌and_then◌, within, check6}
use Rattle.refusal.specs.Answers.{Answer, answer_to, buffer_after}
use Rattle.refusal.proofs.Answering.{answer_by, buffer_by}
use Rattle.prf_plus.specs.PrfPlus.{expand_check}

room_alone : (room : ℕ) → expand_check 64 room ≡ check6 64 room
unfolding expand_check unless within
room_alone room = refl

-- what `prf_plus::expand` answers and leaves after the tests c, where these come to d
pub key_of_64 : (key buffer : List ℕ) {c d : Check} {a : Answer} {after : List ℕ} → c ≡ d
    → (a ≡ answer_to (c and_then expand_check 64 (length buffer)) 64) × (after ≡ buffer_after (c and_then expand_check 64 (length buffer)) 64 key buffer)
    → (a ≡ answer_to (d and_then check6 64 (length buffer)) 64) × (after ≡ buffer_after (d and_then check6 64 (length buffer)) 64 key buffer)
key_of_64 key buffer {c} {d} e h =
    let tests : (c and_then expand_check 64 (length buffer)) ≡ (d and_then check6 64 (length buffer)) = rw (e, room_alone) in
    (answer_by 64 tests h.0, buffer_by 64 key buffer tests h.1)
