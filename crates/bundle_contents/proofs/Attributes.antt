-- Attributes packed end to end: the first of them, and what is left after it.
use Prim.Native.Nat.{ℕ, ◌+◌, ◌≤◌, ◌<◌}
use mathlib.Core.Path.{◌≡◌, refl, sym, ap, ◌∙◌}
use mathlib.Core.List.{List, [], ◌∷◌}
use native.Mathlib.Omega.{arith}
use lib.ListN.{length, take, drop, get_or}
use lib.Seq.{get_or-take, length-take-le}
use Rattle.refusal.specs.Checks.{Check, pass, refuse, Reason}
use Rattle.refusal.proofs.Passing.{first_refuses, second_decides}
use Rattle.key_frame.specs.KeyFrame.{frame_check}
use Rattle.radius_attributes.specs.Attributes.{attribute_length}
use Rattle.radius_attributes.proofs.Lengths.{length_fits}
use Rattle.radius_attributes.proofs.Splitting.{split_next, split-none}
use Rattle.bundle_rules.specs.Bundle.{packed, frames_check}
use Rattle.bundle_rules.proofs.Packing.{sized, first_frame, later_frames}

-- none is left
pub no_bytes : (bytes : List ℕ) → length bytes ≤ 0 → bytes ≡ []
no_bytes [] h = refl
no_bytes (x ∷ bytes) h = absurd (omega arith)

pub none_packed : (bytes : List ℕ) → bytes ≡ [] → packed bytes ≡ []
none_packed bytes e = ap packed e ∙ split-none

-- the first of attributes that all pass: its length is in its length byte
pub record First (bytes : List ℕ) (n : ℕ) : Type 0 where
  pub two : 2 ≤ length bytes
  pub fits : n ≤ length bytes
  pub some : 1 ≤ n
  pub next : packed bytes ≡ take n bytes ∷ packed (drop n bytes)
  pub shorter : length (packed bytes) ≡ length (packed (drop n bytes)) + 1
  pub frame : frame_check (take n bytes) ≡ pass
  pub later : frames_check (packed (drop n bytes)) ≡ pass

pub first_of : (bytes : List ℕ) → 1 ≤ length bytes → frames_check (packed bytes) ≡ pass → First bytes (get_or bytes 1 0)
first_of bytes h c =
    let n : ℕ = attribute_length bytes in
    let next : packed bytes ≡ take n bytes ∷ packed (drop n bytes) = split_next bytes h in
    let c' : frames_check (take n bytes ∷ packed (drop n bytes)) ≡ pass = rw next at c in
    let frame = first_frame (take n bytes) (packed (drop n bytes)) c' in
    let s = sized _ frame in
    let fits = length_fits bytes in
    let size = length-take-le n bytes fits in
    let two : 1 < n = omega (arith, s.low) in
    let byte : get_or bytes 1 0 ≡ n = sym (get_or-take n bytes 1 0 two) ∙ s.counted ∙ size in
    rw byte
    record {
      two = omega arith;
      fits = fits;
      some = omega arith;
      next = next;
      shorter = omega (arith, ap length next);
      frame = frame;
      later = later_frames (take n bytes) (packed (drop n bytes)) c';
    }

-- the first of attributes, tested
module _ (bytes : List ℕ) {n : ℕ} {whole c : Check} (h : 1 ≤ length bytes) (e : n ≡ attribute_length bytes) (t : c ≡ frame_check (take n bytes)) (inv : whole ≡ frames_check (packed bytes)) where
  unpacked : packed bytes ≡ take n bytes ∷ packed (drop n bytes)
  unpacked = rw e (split_next bytes h)

  pub frames_stop : {x : Reason} → c ≡ refuse x → whole ≡ refuse x
  unfolding frames_check
  frames_stop r = inv ∙ rw unpacked (sym (first_refuses _ _ (sym t ∙ r)))

  pub frames_on : c ≡ pass → whole ≡ frames_check (packed (drop n bytes))
  unfolding frames_check
  frames_on p = inv ∙ rw unpacked (sym (second_decides _ _ (sym t ∙ p)))

pub frames_end : {bytes : List ℕ} {whole : Check} → bytes ≡ [] → whole ≡ frames_check (packed bytes) → whole ≡ pass
unfolding frames_check
frames_end {bytes} e inv = inv ∙ ap frames_check (none_packed bytes e)

-- it is counted, and where none is left they all are
pub counted_on : (bytes : List ℕ) (count : ℕ) {n all : ℕ} → 1 ≤ length bytes → n ≡ attribute_length bytes → count + length (packed bytes) ≡ all
    → count + 1 + length (packed (drop n bytes)) ≡ all
counted_on bytes count h e inv =
    let next = ap length (split_next bytes h) in
    rw e (omega (arith, inv, next))

pub counted_end : (bytes : List ℕ) (count : ℕ) {all : ℕ} → bytes ≡ [] → count + length (packed bytes) ≡ all → count ≡ all
counted_end bytes count e inv = omega (arith, inv, ap length (none_packed bytes e))
