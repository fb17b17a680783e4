-- A key that is read has at most 192 bytes, so the 32 bits that C gets hold its length.
use Prim.Native.Nat.{ℕ, ◌≤◌, ◌<◌, ◌^◌}
use mathlib.Core.Path.{◌≡◌, refl, ap, ◌∙◌}
use mathlib.Core.List.{List}
use native.Mathlib.Nat.{mod-eq_of_lt}
use native.Mathlib.Omega.{arith}
use Rattle.refusal.specs.Checks.{Check, pass, refuse, within}
use Rattle.std.specs.Prelude.{Result}
use Rattle.refusal.specs.declared.Refusal.{Refusal}
use Rattle.refusal.proofs.Passing.{before-passed, last-passed, within-high}
use Rattle.slices.proofs.Truth.{and_left}
use Rattle.keywrap.specs.Calls.{wrappable}
use Rattle.key_frame.specs.KeyFrame.{fields_in, key_length_in}
use Rattle.key_frame.specs.declared.KeyFields.{KeyFields}
use Rattle.key_frame.proofs.Frames.{framed}
use Rattle.key_reader.specs.KeyReader.{Reading, accepted, read_check, reading_to, reading, reading_of}
use Rattle.key_reader.specs.declared.KeyRead.{KeyRead}
use Rattle.outcome.specs.KeyAttributes.{key_outcome}
use Rattle.outcome.specs.Internal.{length_low}
use Rattle.outcome.specs.declared.key_attributes.KeyAttributeOutcome.{KeyAttributeOutcome}

-- a length is that of the key read, or there is none
held : (c : Check) (f : KeyFields) (n : ℕ) → (c ≡ pass → n ≤ 192) → length_low (reading_to c f n) ≡ reading_to c f n
held pass f n h = let most = h refl in let small : n < 2 ^ 32 = omega arith in ap (accepted f) (mod-eq_of_lt small)
held (refuse x) f n h = refl

all_held : (kek a : List ℕ) (room : ℕ) → length_low (reading kek a room) ≡ reading kek a room
unfolding reading read_check wrappable
all_held kek a room =
    held (read_check kek a room) (fields_in a) (key_length_in a)
    (λ p.
    let frame = last-passed _ _ (before-passed _ _ (before-passed _ _ p)) in
    within-high 16 192 (key_length_in a) (and_left (within 16 192 (key_length_in a)) _ (framed a frame).size.sized))

pub handed_key : {o : KeyAttributeOutcome} (w : Result KeyRead Refusal) (kek a : List ℕ) (room : ℕ)
    → o ≡ key_outcome (length_low (reading_of w)) → reading_of w ≡ reading kek a room → o ≡ key_outcome (reading kek a room)
handed_key w kek a room e h =
    e ∙ ap (λ (r : Reading). key_outcome (length_low r)) h ∙ ap key_outcome (all_held kek a room)
