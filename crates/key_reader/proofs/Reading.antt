-- What the reader answers and leaves, by its tests: those before the unwrapping, and the unwrapping's own.
use Prim.Native.Nat.{ℕ, ◌+◌, ◌-◌, ◌≤◌}
use mathlib.Core.Path.{◌≡◌, sym, ap, ◌∙◌}
use mathlib.Core.List.{List}
use native.Mathlib.Omega.{arith}
use borrow.Author.Tests.{eqb-true}
use lib.ListN.{length, take, drop, length-drop}
use lib.Seq.{length-take-le}
use Rattle.refusal.specs.Checks.{Reason, Check, pass, ◌and_then◌, check6}
use Rattle.std.specs.Prelude.{⊤, Result, Ok, Err, OnOk}
use Rattle.refusal.specs.declared.Refusal.{Refusal}
use Rattle.refusal.specs.Answers.{checked_as, Answer, returned, answer_to, buffer_after}
use Rattle.refusal.proofs.Passing.{before-passed, last-passed, test_passed, test_holds}
use Rattle.slices.proofs.Lists.{rest_drop}
use Rattle.rfc3394.specs.Rfc3394.{unwrapped_iv, unwrapped_key}
use Rattle.keywrap.specs.Calls.{check23, check28, key_length, unwrap_check}
use Rattle.key_frame.specs.KeyFrame.{fields_in, wrapped_in, key_length_in, check22, frame_check, first_of}
use Rattle.key_frame.proofs.Frames.{framed}
use Rattle.key_frame.proofs.ByValue.{first_whole}
use Rattle.key_reader.specs.KeyReader.{key_in, read_check, accepted, Reading, reading, read_buffer}
use Rattle.refusal.proofs.Answering.{told_count, told_refusal}

-- an attribute whose frame passes is long enough for a key
pub long_framed : (a : List ℕ) (r : Result ⊤ Refusal) → checked_as r ≡ frame_check a → OnOk r (76 ≤ length a)
long_framed a (Ok u) e = omega (arith, (framed a (sym e)).size.key.low)
long_framed a (Err x) e = tt

-- where the tests before the unwrapping pass, what the unwrapping asks of the wrapped key is what is left to test, since its length is that of a wrapped key
rest_of : (kek a : List ℕ) (room : ℕ) → (check22 kek and_then frame_check a) ≡ pass → read_check kek a room ≡ unwrap_check kek (wrapped_in a) room
unfolding read_check unwrap_check
rest_of kek a room x =
    let n : key_length (wrapped_in a) ≡ key_length_in a = simp length-drop (omega arith) in
    let y : check23 (key_length_in a) ≡ pass = test_holds _ _ (framed a (last-passed _ _ x)).size.sized in
    ap (λ (c : Check). c and_then check6 (key_length_in a) room and_then check28 (unwrapped_iv kek (wrapped_in a))) (x ∙ sym y)
    ∙ ap (λ (k : ℕ). check23 k and_then check6 k room and_then check28 (unwrapped_iv kek (wrapped_in a))) (sym n)

-- what the unwrapping of the attribute's part from byte 52 on answered and left, said of the attribute
module _ (kek a buffer kek₁ : List ℕ) (ok : (check22 kek and_then frame_check a) ≡ pass) (k : kek₁ ≡ first_of 16 kek) where
  same : kek₁ ≡ kek
  same = k ∙ first_whole 16 kek (eqb-true _ _ (test_passed _ _ (before-passed _ _ ok)))

  abbrev part : List ℕ
  part = take (length a - 52) (drop 52 a)

  part-check : unwrap_check kek₁ part (length buffer) ≡ read_check kek a (length buffer)
  part-check = rw (rest_drop 52 a, same) (sym (rest_of kek a (length buffer) ok))

  part_length : key_length part ≡ key_length_in a
  part_length = rw (rest_drop 52 a) (simp length-drop (omega arith))

  part-key : unwrapped_key kek₁ part ≡ key_in kek a
  unfolding key_in
  part-key = rw (rest_drop 52 a, same)

  -- it leaves what the reader leaves
  pub left : {after : List ℕ} → after ≡ buffer_after (unwrap_check kek₁ part (length buffer)) (key_length part) (unwrapped_key kek₁ part) buffer
      → after ≡ read_buffer kek a buffer
  unfolding read_buffer
  left e = e ∙ (λ i. buffer_after (part-check i) (part_length i) (part-key i) buffer)

  answer-part : {answer : Answer} → answer ≡ answer_to (unwrap_check kek₁ part (length buffer)) (key_length part)
      → answer ≡ answer_to (read_check kek a (length buffer)) (key_length_in a)
  answer-part e = e ∙ (λ i. answer_to (part-check i) (part_length i))

  -- it accepts, or it refuses
  pub read_so : (n : ℕ) → returned n ≡ answer_to (unwrap_check kek₁ part (length buffer)) (key_length part)
      → accepted (fields_in a) n ≡ reading kek a (length buffer)
  unfolding reading
  read_so n u = let t = told_count _ _ n (answer-part u) in rw (t.0, t.1)

  pub refused_late : (x : Reason) → Answer.refused x ≡ answer_to (unwrap_check kek₁ part (length buffer)) (key_length part)
      → Reading.refused x ≡ reading kek a (length buffer)
  unfolding reading
  refused_late x u = let c = told_refusal _ _ x (answer-part u) in rw c

-- sixteen bytes at a place that has them
pub id_at : (a : List ℕ) (i : ℕ) {r : List ℕ} → i + 16 ≤ length a → r ≡ first_of 16 (take 16 (drop i a)) → r ≡ take 16 (drop i a)
id_at a i h e = e ∙ first_whole 16 (take 16 (drop i a)) (length-take-le 16 (drop i a) (simp length-drop (omega arith)))
