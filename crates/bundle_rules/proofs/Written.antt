-- The file of bodies whose frames pass, read: its count, its lines, its bodies.
use Prim.Native.Nat.{ℕ, suc, ◌+◌, ◌*◌, ◌≤◌, ◌<◌}
use mathlib.Core.Path.{◌≡◌, refl, sym, ap, ◌∙◌}
use mathlib.Core.Bool.{Bool, true, false, ◌&&◌}
use mathlib.Core.List.{List, [], ◌∷◌, ◌++◌, map, append_assoc, flatten}
use native.Mathlib.Omega.{arith}
use borrow.Author.Tests.{le-leb, eq-eqb}
use lib.Dec.{leb}
use lib.ListN.{length, take, drop, length-append, length-drop}
use lib.Seq.{length-take-le, take_at, drop_at, drop-drop}
use Rattle.refusal.specs.Checks.{pass, bare, unless, within}
use Rattle.refusal.proofs.Passing.{test_holds, both_pass, within_holds}
use Rattle.slices.proofs.Same.{equal_same}
use Rattle.slices.specs.Numbers.{be16, be16_at}
use Rattle.key_frame.specs.KeyFrame.{fields_in}
use Rattle.bundle_rules.specs.Bundle.{
  contents_end,
  key_id_in,
  id_repeats,
  line_of,
  lines_of,
  file_of,
  frames_check,
  Line,
  line_at,
  lines_from,
  count_in,
  lines_in,
  follow,
  last_end,
  body_of,
  ids_of,
  packed_in,
  bodies_check,
  contents_check,
  bundle_check,
}
use Rattle.bundle_rules.proofs.Bytes.{two_back, number_drop}
use Rattle.bundle_rules.proofs.Packing.{Sized, sized, first_frame, later_frames}

-- ---- lengths

pub id-size : (b : List ℕ) → Sized b → length (key_id_in b) ≡ 16
unfolding key_id_in fields_in
id-size b s = length-take-le 16 (drop 24 b) (simp length-drop (omega (arith, s.low)))

line_size : (at : ℕ) (b : List ℕ) → Sized b → length (line_of at b) ≡ 20
unfolding line_of
line_size at b s = let n = id-size b s in simp length-append (omega arith)

pub lines_size : (at : ℕ) (bodies : List (List ℕ)) → frames_check bodies ≡ pass → length (lines_of at bodies) ≡ 20 * length bodies
unfolding lines_of
lines_size at [] e = refl
lines_size at (b ∷ bodies) e =
    let n = line_size at b (sized b (first_frame b bodies e)) in
    let m = lines_size (at + length b) bodies (later_frames b bodies e) in
    simp length-append (omega arith)

pub flatten_size : (bodies : List (List ℕ)) → frames_check bodies ≡ pass → length (flatten bodies) ≤ 252 * length bodies
unfolding flatten
flatten_size [] e = omega arith
flatten_size (b ∷ bodies) e =
    let s = sized b (first_frame b bodies e) in
    let m = flatten_size bodies (later_frames b bodies e) in
    simp length-append (omega arith)

-- ---- the lines of bodies

unfoldable pub wanted : ℕ → List (List ℕ) → List Line
wanted at [] = []
wanted at (b ∷ bodies) = record { id = key_id_in b; offset = at; size = length b } ∷ wanted (at + length b) bodies

-- a line read, where its bytes stand
module _ (f : List ℕ) (i at : ℕ) (b rest : List ℕ) (s : Sized b) (low : at < 65536) (e : drop (2 + 20 * i) f ≡ line_of at b ++ rest) where
  numbers : List ℕ
  numbers = be16 at ++ (be16 (length b) ++ rest)

  regrouped : drop (2 + 20 * i) f ≡ key_id_in b ++ numbers
  unfolding line_of numbers
  regrouped = e ∙ append_assoc (key_id_in b) (be16 at ++ be16 (length b)) rest

  after-id : drop (18 + 20 * i) f ≡ numbers
  after-id =
      let n : 2 + 20 * i + 16 ≡ 18 + 20 * i = omega arith in
      rw n at (sym (drop-drop 16 (2 + 20 * i) f)) ∙ ap (drop 16) regrouped ∙ drop_at (key_id_in b) numbers 16 (id-size b s)

  after-offset : drop (20 + 20 * i) f ≡ be16 (length b) ++ rest
  unfolding numbers
  after-offset =
      let n : 18 + 20 * i + 2 ≡ 20 + 20 * i = omega arith in
      rw n at (sym (drop-drop 2 (18 + 20 * i) f)) ∙ ap (drop 2) after-id

  after_line : drop (2 + 20 * suc i) f ≡ rest
  after_line =
      let n : 20 + 20 * i + 2 ≡ 2 + 20 * suc i = omega arith in
      rw n at (sym (drop-drop 2 (20 + 20 * i) f)) ∙ ap (drop 2) after-offset

  line_read : line_at f i ≡ record { id = key_id_in b; offset = at; size = length b }
  unfolding line_at numbers
  line_read =
      let id : take 16 (drop (2 + 20 * i) f) ≡ key_id_in b = ap (take 16) regrouped ∙ take_at (key_id_in b) numbers 16 (id-size b s) in
      let offset : be16_at f (18 + 20 * i) ≡ at = sym (number_drop (18 + 20 * i) f) ∙ rw after-id (two_back at low) in
      let size : be16_at f (20 + 20 * i) ≡ length b = sym (number_drop (20 + 20 * i) f) ∙ rw after-offset (two_back (length b) (omega (arith, s.high))) in
      λ k. record { id = id k; offset = offset k; size = size k }

lines_read : (f : List ℕ) (i at : ℕ) (bodies : List (List ℕ)) (tail : List ℕ) → frames_check bodies ≡ pass → at + length (flatten bodies) < 65536
    → drop (2 + 20 * i) f ≡ lines_of at bodies ++ tail → lines_from f i (length bodies) ≡ wanted at bodies
unfolding lines_from lines_of wanted flatten
lines_read f i at [] tail c h e = refl
lines_read f i at (b ∷ bodies) tail c h e =
    let s = sized b (first_frame b bodies c) in
    let n = length-append b (flatten bodies) in
    let e' = e ∙ append_assoc (line_of at b) (lines_of (at + length b) bodies) tail in
    let first = line_read f i at b (lines_of (at + length b) bodies ++ tail) s (omega arith) e' in
    let later = lines_read f (suc i) (at + length b) bodies tail (later_frames b bodies c) (omega arith) (after_line f i at b _ s (omega arith) e') in
    λ k. first k ∷ later k

-- ---- their tests

wanted_follow : (at : ℕ) (bodies : List (List ℕ)) → follow at (wanted at bodies) ≡ true
unfolding follow wanted
wanted_follow at [] = refl
wanted_follow at (b ∷ bodies) = rw (eq-eqb at at refl) (wanted_follow (at + length b) bodies)

wanted_end : (at : ℕ) (bodies : List (List ℕ)) → last_end at (wanted at bodies) ≡ at + length (flatten bodies)
unfolding last_end wanted flatten
wanted_end at [] = omega arith
wanted_end at (b ∷ bodies) =
    let n = length-append b (flatten bodies) in
    let m : at + length b + length (flatten bodies) ≡ at + length (b ++ flatten bodies) = omega arith in
    wanted_end (at + length b) bodies ∙ m

wanted_ids : (at : ℕ) (bodies : List (List ℕ)) → ids_of (wanted at bodies) ≡ map key_id_in bodies
unfolding wanted
wanted_ids at [] = refl
wanted_ids at (b ∷ bodies) = λ k. key_id_in b ∷ wanted_ids (at + length b) bodies k

wanted_bodies : (f : List ℕ) (at : ℕ) (bodies : List (List ℕ)) → frames_check bodies ≡ pass → drop at f ≡ flatten bodies → bodies_check f (wanted at bodies) ≡ pass
unfolding wanted flatten bodies_check body_of
wanted_bodies f at [] c e = refl
wanted_bodies f at (b ∷ bodies) c e =
    let same : take (length b) (drop at f) ≡ b = ap (take (length b)) e ∙ take_at b (flatten bodies) (length b) refl in
    let rest : drop (at + length b) f ≡ flatten bodies = sym (drop-drop (length b) at f) ∙ ap (drop (length b)) e ∙ drop_at b (flatten bodies) (length b) refl in
    let frame = both_pass _ _ (first_frame b bodies c) (test_holds _ (bare 50) (equal_same (key_id_in b))) in
    rw same (both_pass _ _ frame (wanted_bodies f (at + length b) bodies (later_frames b bodies c) rest))

-- ---- the file

both : (a b : Bool) → a ≡ true → b ≡ true → (a && b) ≡ true
both a b p q = rw (p, q)

module _ (bodies : List (List ℕ)) (c : frames_check bodies ≡ pass) (low : 1 ≤ length bodies) (high : length bodies ≤ 64) (once : id_repeats (map key_id_in bodies) ≡ false) where
  pub count_read : count_in (file_of bodies) ≡ length bodies
  unfolding file_of
  count_read = two_back (length bodies) (omega arith)

  pub file_size : length (file_of bodies) ≡ contents_end (length bodies) + length (flatten bodies)
  unfolding file_of
  file_size =
      let n = lines_size (contents_end (length bodies)) bodies c in
      let m = length-append (lines_of (contents_end (length bodies)) bodies) (flatten bodies) in
      omega arith

  after-contents : drop (contents_end (length bodies)) (file_of bodies) ≡ flatten bodies
  unfolding file_of
  after-contents =
      let n = lines_size (contents_end (length bodies)) bodies c in
      drop_at (be16 (length bodies) ++ lines_of (contents_end (length bodies)) bodies) (flatten bodies) (contents_end (length bodies)) (omega arith)

  pub packed_read : packed_in (file_of bodies) ≡ flatten bodies
  packed_read = rw count_read after-contents

  after-count : drop 2 (file_of bodies) ≡ lines_of (contents_end (length bodies)) bodies ++ flatten bodies
  unfolding file_of
  after-count = refl

  lines-in : lines_in (file_of bodies) ≡ wanted (contents_end (length bodies)) bodies
  lines-in =
      let m = flatten_size bodies c in
      rw count_read (lines_read (file_of bodies) 0 (contents_end (length bodies)) bodies (flatten bodies) c (omega arith) after-count)

  pub file_passes : bundle_check (file_of bodies) ≡ pass
  unfolding bundle_check contents_check unless
  file_passes =
      let size = file_size in
      let f = file_of bodies in
      let t39 = both (leb 2 (length f)) (within 1 64 (length bodies)) (le-leb 2 (length f) (omega arith)) (within_holds 1 64 (length bodies) low high) in
      let t40 = both (leb (contents_end (length bodies)) (length f)) _ (le-leb (contents_end (length bodies)) (length f) (omega arith)) (wanted_follow (contents_end (length bodies)) bodies) in
      let t41 = eq-eqb (last_end (contents_end (length bodies)) (wanted (contents_end (length bodies)) bodies)) (length f) (wanted_end (contents_end (length bodies)) bodies ∙ sym size) in
      rw (lines-in, count_read, t39, t40, t41, wanted_ids, once) (wanted_bodies f (contents_end (length bodies)) bodies c after-contents)
