-- What the writer answers and leaves, by its tests: those before the wrapping, and the wrapping's own.
use Prim.Native.Nat.{ℕ, ◌+◌, ◌-◌, ◌≤◌, ◌<◌, min}
use mathlib.Core.Path.{◌≡◌, refl, sym, ap, ◌∙◌}
use mathlib.Core.Bool.{true, ◌&&◌}
use mathlib.Core.List.{List, ◌++◌, append_assoc}
use native.Mathlib.Decide.{dec_lt}
use native.Mathlib.Nat.{min-eq_left, min-eq_right}
use native.Mathlib.Omega.{arith}
use borrow.Author.Tests.{leb-true, eqb-true, le-leb}
use borrow.Rule.Slice.PartMut.{put_mid}
use lib.Dec.{leb, eqb}
use lib.ListN.{length, take, drop, length-append, length-drop, take-append-drop}
use lib.Seq.{drop_at, drop-drop, length-take-le}
use Rattle.refusal.specs.Checks.{Reason, Check, pass, refuse, ◌and_then◌, check20}
use Rattle.refusal.specs.Answers.{Answer, returned, answer_to, buffer_after}
use Rattle.refusal.proofs.Passing.{before-passed, last-passed, test_passed}
use Rattle.slices.proofs.Truth.{and_left, and_right, same_truth}
use Rattle.slices.proofs.Lists.{rest_drop}
use Rattle.rfc3394.specs.Rfc3394.{wrapped}
use Rattle.keywrap.specs.Calls.{wrap_check}
use Rattle.key_frame.specs.KeyFrame.{fields_of, header, check22, first_of}
use Rattle.key_frame.specs.declared.KeyFields.{KeyFields}
use Rattle.key_frame.proofs.Frames.{KeyLength, key-length}
use Rattle.key_frame.proofs.ByValue.{first_whole}
use Rattle.key_writer.specs.KeyWriter.{attribute_length, attribute, check21, write_check, write_answer, write_buffer}
use Rattle.refusal.proofs.Answering.{told_count, told_refusal}
use Rattle.key_frame.proofs.Parts.{put_from}

-- the tests before the wrapping
abbrev pub named : KeyFields → List ℕ → Check
named f kek = check20 f.attribute_type and_then check21 f.kek_id f.key_id and_then check22 kek

-- what they say where they pass
pub record Named (f : KeyFields) (kek : List ℕ) : Type 0 where
  pub kek_id : length f.kek_id ≡ 16
  pub key_id : length f.key_id ≡ 16
  pub kek_size : length kek ≡ 16

pub lengths : (f : KeyFields) (kek : List ℕ) → named f kek ≡ pass → Named f kek
lengths f kek e =
    let ids : (eqb (length f.kek_id) 16 && eqb (length f.key_id) 16) ≡ true = test_passed _ _ (last-passed _ _ (before-passed _ _ e)) in
    record {
      kek_id = eqb-true _ _ (and_left _ _ ids);
      key_id = eqb-true _ _ (and_right (eqb (length f.kek_id) 16) _ ids);
      kek_size = eqb-true _ _ (test_passed _ _ (last-passed _ _ e));
    }

-- the room from byte 52 on, or from the end where that comes first, is enough for the wrapped key where the whole is enough for the attribute
same_fit : (n room start : ℕ) → start ≡ min room 52 → leb (60 + n) room ≡ leb (n + 8) (room - start)
same_fit n room start e =
    same_truth (leb (60 + n) room) (leb (n + 8) (room - start))
    (λ p. let fits = leb-true (60 + n) room p in le-leb (n + 8) (room - start) (there (dec_lt room 52) fits))
    (λ p. let fits = leb-true (n + 8) (room - start) p in le-leb (60 + n) room (back (dec_lt room 52) fits))
  where
    short : room < 52 → start ≡ room
    short h = let le : room ≤ 52 = omega arith in e ∙ min-eq_left le

    long : (room < 52 → ⊥) → start ≡ 52
    long h = let le : 52 ≤ room = omega arith in e ∙ min-eq_right le

    there : Dec (room < 52) → 60 + n ≤ room → n + 8 ≤ room - start
    there (yes h) fits = omega arith
    there (no h) fits = let s = long h in omega arith

    back : Dec (room < 52) → n + 8 ≤ room - start → 60 + n ≤ room
    back (yes h) fits = let s = short h in omega arith
    back (no h) fits = let s = long h in omega arith

-- what is so where the wrap routine, lent the part from there on, answers a count
record Accepted (f : KeyFields) (kek key buffer : List ℕ) (start n : ℕ) : Type 0 where
  pub tests : write_check f kek key (length buffer) ≡ pass
  pub count : n ≡ length key + 8
  pub size : KeyLength (length key)
  pub fits : 60 + length key ≤ length buffer
  pub at_52 : start ≡ 52

-- they pass, and the part of the buffer from there on is lent to the wrap routine, which leaves z in it
module _ (f : KeyFields) (kek key buffer : List ℕ) (ok : named f kek ≡ pass) (start : ℕ) (at : start ≡ min (length buffer) 52) where
  abbrev part : List ℕ
  part = take (length buffer - start) (drop start buffer)

  -- what it tests is what is left to test
  rest_tests : write_check f kek key (length buffer) ≡ wrap_check (length key) (length part)
  unfolding write_check wrap_check
  rest_tests =
      let size : length part ≡ length buffer - start = rw (rest_drop start buffer) (length-drop start buffer) in
      rw (ok, size, same_fit (length key) (length buffer) start at)

  -- it refuses
  pub refused_wrap : (kek₁ : List ℕ) (x : Reason) {z : List ℕ} → Answer.refused x ≡ answer_to (wrap_check (length key) (length part)) (length key + 8)
      → z ≡ buffer_after (wrap_check (length key) (length part)) (length key + 8) (wrapped kek₁ key) part
      → (Answer.refused x ≡ write_answer f kek key (length buffer)) × (put_mid start (length buffer - start) buffer z ≡ write_buffer f kek key buffer)
  unfolding write_answer write_buffer
  refused_wrap kek₁ x {z} a b =
      let c : wrap_check (length key) (length part) ≡ refuse x = told_refusal _ _ x a in
      let same : z ≡ drop start buffer = rw c at b ∙ rest_drop start buffer in
      rw (rest_tests, c) (refl, put_from start buffer z ∙ rw same (take-append-drop start buffer))

  -- it accepts
  accepted_wrap : (n : ℕ) → returned n ≡ answer_to (wrap_check (length key) (length part)) (length key + 8) → Accepted f kek key buffer start n
  unfolding write_check
  accepted_wrap n a =
      let t = told_count _ _ n a in
      let tests : write_check f kek key (length buffer) ≡ pass = rest_tests ∙ t.0 in
      let fits : 60 + length key ≤ length buffer = leb-true _ _ (test_passed _ _ (last-passed _ _ tests)) in
      let long : 52 ≤ length buffer = omega arith in
      record {
        tests = tests;
        count = t.1;
        size = key-length _ (test_passed _ _ (last-passed _ _ (before-passed _ _ tests)));
        fits = fits;
        at_52 = at ∙ min-eq_right long;
      }

  -- the attribute's length is at most 252
  pub length_small : (n : ℕ) → returned n ≡ answer_to (wrap_check (length key) (length part)) (length key + 8) → 52 + n ≤ 252
  length_small n a = let acc = accepted_wrap n a in omega (arith, acc.count, acc.size.high)

  -- there is room for the header before what it left
  before_part : {n : ℕ} → Accepted f kek key buffer start n → length (take start buffer) ≡ 52
  before_part acc = length-take-le start buffer (omega (arith, acc.at_52, acc.fits)) ∙ acc.at_52

  pub header_room : (kek₁ : List ℕ) (n : ℕ) {z : List ℕ} → returned n ≡ answer_to (wrap_check (length key) (length part)) (length key + 8)
      → z ≡ buffer_after (wrap_check (length key) (length part)) (length key + 8) (wrapped kek₁ key) part
      → 52 ≤ length (put_mid start (length buffer - start) buffer z)
  header_room kek₁ n {z} a e =
      let size : length (take start buffer ++ z) ≡ 52 + length z = length-append (take start buffer) z ∙ ap (λ (k : ℕ). k + length z) (before_part (accepted_wrap n a)) in
      rw (put_from start buffer z) (omega arith)

  -- which is put there
  pub written_wrap : (kek₁ kek_id key_id : List ℕ) (n all : ℕ) {z after : List ℕ} → returned n ≡ answer_to (wrap_check (length key) (length part)) (length key + 8) → kek₁ ≡ first_of 16 kek
      → z ≡ buffer_after (wrap_check (length key) (length part)) (length key + 8) (wrapped kek₁ key) part
      → all ≡ 52 + n
      → kek_id ≡ first_of 16 f.kek_id
      → key_id ≡ first_of 16 f.key_id
      → after ≡ header (fields_of f.attribute_type f.app_id kek_id key_id f.lifetime) all ++ drop 52 (put_mid start (length buffer - start) buffer z)
      → (returned all ≡ write_answer f kek key (length buffer)) × (after ≡ write_buffer f kek key buffer)
  unfolding write_answer write_buffer attribute
  written_wrap kek₁ kek_id key_id n all {z} {after} a k b s k₁ k₂ h =
      let acc = accepted_wrap n a in
      let sizes = lengths f kek ok in
      let same : kek₁ ≡ kek = k ∙ first_whole 16 kek sizes.kek_size in
      let same₁ : kek_id ≡ f.kek_id = k₁ ∙ first_whole 16 f.kek_id sizes.kek_id in
      let same₂ : key_id ≡ f.key_id = k₂ ∙ first_whole 16 f.key_id sizes.key_id in
      let size : all ≡ attribute_length key = omega (arith, acc.count) in
      let c : wrap_check (length key) (length part) ≡ pass = sym rest_tests ∙ acc.tests in
      let far : start + (length key + 8) ≡ 60 + length key = omega (arith, acc.at_52) in
      let left : z ≡ wrapped kek key ++ drop (60 + length key) buffer
      = rw (c, same) at b ∙ ap (λ (l : List ℕ). wrapped kek key ++ drop (length key + 8) l) (rest_drop start buffer)
      ∙ ap (λ (l : List ℕ). wrapped kek key ++ l) (drop-drop (length key + 8) start buffer ∙ ap (λ (i : ℕ). drop i buffer) far) in
      let put : drop 52 (put_mid start (length buffer - start) buffer z) ≡ z = ap (drop 52) (put_from start buffer z) ∙ drop_at (take start buffer) z 52 (before_part acc) in
      let whole : after ≡ (header f (attribute_length key) ++ wrapped kek key) ++ drop (60 + length key) buffer
      = h ∙ (λ i. header (fields_of f.attribute_type f.app_id (same₁ i) (same₂ i) f.lifetime) (size i) ++ (put ∙ left) i)
      ∙ sym (append_assoc (header f (attribute_length key)) (wrapped kek key) (drop (60 + length key) buffer)) in
      rw acc.tests (ap returned size, whole)
