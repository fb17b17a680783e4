-- What an accepted file's tests say.
use Prim.Native.Nat.{ℕ, ◌+◌, ◌*◌, ◌≤◌}
use mathlib.Core.Path.{◌≡◌, refl, sym}
use mathlib.Core.Bool.{true, false, ◌&&◌}
use mathlib.Core.List.{List, [], ◌∷◌, map, flatten}
use native.Mathlib.Omega.{arith}
use borrow.Author.Tests.{leb-true, eqb-true, not-true}
use lib.Dec.{leb, eqb}
use lib.ListN.{length, drop, length-drop, take-append-drop, drop_of_length-le}
use lib.Seq.{length-take-le, drop-drop}
use Rattle.refusal.specs.Checks.{Check, pass, within, ◌and_then◌}
use Rattle.slices.proofs.Truth.{and_left, and_right}
use Rattle.refusal.proofs.Passing.{within_low, within-high, before-passed, last-passed, test_passed, both_pass}
use Rattle.slices.proofs.Same.{same_equal}
use Rattle.key_frame.specs.KeyFrame.{frame_check}
use Rattle.bundle_rules.specs.Bundle.{contents_end, key_id_in, id_repeats, frames_check, Line, count_in, lines_in, follow, last_end, body_of, ids_of, check50, bodies_check, contents_check, bundle_check}
use Rattle.bundle_rules.proofs.Packing.{sized}

-- the table of contents
pub record Contents (f : List ℕ) : Type 0 where
  pub two : 2 ≤ length f
  pub low : 1 ≤ count_in f
  pub high : count_in f ≤ 64
  pub inside : contents_end (count_in f) ≤ length f
  pub following : follow (contents_end (count_in f)) (lines_in f) ≡ true
  pub ending : last_end (contents_end (count_in f)) (lines_in f) ≡ length f
  pub once : id_repeats (ids_of (lines_in f)) ≡ false
  pub bodies : bodies_check f (lines_in f) ≡ pass

pub contents : (f : List ℕ) → bundle_check f ≡ pass → Contents f
unfolding bundle_check contents_check
contents f e =
    let c42 = before-passed _ _ e in
    let c41 = before-passed _ _ c42 in
    let c40 = before-passed _ _ c41 in
    let t39 : (leb 2 (length f) && within 1 64 (count_in f)) ≡ true = test_passed _ _ (before-passed _ _ c40) in
    let t40 : (leb (contents_end (count_in f)) (length f) && follow (contents_end (count_in f)) (lines_in f)) ≡ true = test_passed _ _ (last-passed _ _ c40) in
    let w : within 1 64 (count_in f) ≡ true = and_right (leb 2 (length f)) _ t39 in
    record {
      two = leb-true _ _ (and_left _ _ t39);
      low = within_low 1 64 (count_in f) w;
      high = within-high 1 64 (count_in f) w;
      inside = leb-true _ _ (and_left _ _ t40);
      following = and_right (leb (contents_end (count_in f)) (length f)) _ t40;
      ending = eqb-true _ _ (test_passed _ _ (last-passed _ _ c41));
      once = not-true _ (test_passed _ _ (last-passed _ _ c42));
      bodies = last-passed _ _ e;
    }

-- a line and its body: the body is whole, passes and has the line's Key ID
pub record Whole (f : List ℕ) (l : Line) : Type 0 where
  pub frame : frame_check (body_of f l) ≡ pass
  pub id_same : key_id_in (body_of f l) ≡ l.id
  pub size_same : length (body_of f l) ≡ l.size

-- lines whose bodies stand one after the other from a place on, to the end of the file
pub data Laid (f : List ℕ) : ℕ → List Line → Type 0 where
  ended : {at : ℕ} → at ≡ length f → Laid f at []
  next : {at : ℕ} {l : Line} {lines : List Line} → l.offset ≡ at → Whole f l → Laid f (l.offset + l.size) lines → Laid f at (l ∷ lines)

-- the last end is no earlier than the first
pub end_le : (at : ℕ) (lines : List Line) → follow at lines ≡ true → at ≤ last_end at lines
unfolding follow last_end
end_le at [] e = omega arith
end_le at (l ∷ lines) e =
    let o = eqb-true l.offset at (and_left (eqb l.offset at) _ e) in
    let h = end_le (l.offset + l.size) lines (and_right (eqb l.offset at) _ e) in
    omega arith

laid_from : (f : List ℕ) (at : ℕ) (lines : List Line) → follow at lines ≡ true → last_end at lines ≡ length f → bodies_check f lines ≡ pass → Laid f at lines
unfolding follow last_end bodies_check body_of
laid_from f at [] e h c = ended h
laid_from f at (l ∷ lines) e h c =
    let later = and_right (eqb l.offset at) _ e in
    next (eqb-true _ _ (and_left (eqb l.offset at) _ e)) whole (laid_from f (l.offset + l.size) lines later h (last-passed _ _ c))
  where
    fits : l.size ≤ length (drop l.offset f)
    fits =
        let r = end_le (l.offset + l.size) lines (and_right (eqb l.offset at) _ e) in
        let d = length-drop l.offset f in
        omega arith

    frame : Check
    frame = frame_check (body_of f l)

    own : (frame and_then check50 l.id (body_of f l)) ≡ pass
    own = before-passed (frame and_then check50 l.id (body_of f l)) (bodies_check f lines) c

    whole : Whole f l
    whole =
        record {
          frame = before-passed frame (check50 l.id (body_of f l)) own;
          id_same = same_equal _ _ (test_passed _ _ (last-passed frame (check50 l.id (body_of f l)) own));
          size_same = size;
        }
      where
        size : length (body_of f l) ≡ l.size
        size = length-take-le l.size (drop l.offset f) fits

pub laid : (f : List ℕ) → bundle_check f ≡ pass → Laid f (contents_end (count_in f)) (lines_in f)
laid f e = let c = contents f e in laid_from f _ _ c.following c.ending c.bodies

-- ---- the bodies, one after the other

-- they are what follows
pub laid_flatten : {f : List ℕ} {at : ℕ} {lines : List Line} → Laid f at lines → flatten (map (body_of f) lines) ≡ drop at f
unfolding flatten body_of
laid_flatten {f} {at} (ended e) = sym (drop_of_length-le f {i = at} (omega arith))
laid_flatten {f} (next {l = l} o w r) =
    rw (laid_flatten r, ← o, ← drop-drop l.size l.offset f) (take-append-drop l.size (drop l.offset f))

-- all pass
pub laid_frames : {f : List ℕ} {at : ℕ} {lines : List Line} → Laid f at lines → frames_check (map (body_of f) lines) ≡ pass
unfolding frames_check
laid_frames (ended e) = refl
laid_frames (next o w r) = both_pass _ _ w.frame (laid_frames r)

-- their Key IDs are those of the lines
pub laid_ids : {f : List ℕ} {at : ℕ} {lines : List Line} → Laid f at lines → map key_id_in (map (body_of f) lines) ≡ ids_of lines
laid_ids (ended e) = refl
laid_ids (next o w r) = λ i. w.id_same i ∷ laid_ids r i

-- none is longer than 252
pub laid_length : {f : List ℕ} {at : ℕ} {lines : List Line} → Laid f at lines → length f ≤ at + 252 * length lines
laid_length (ended e) = omega arith
laid_length {f} (next {l = l} o w r) =
    let s = sized (body_of f l) w.frame in
    let n = w.size_same in
    let h = laid_length r in
    omega arith
