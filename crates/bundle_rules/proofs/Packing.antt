-- Attributes packed end to end, and taken apart again by their length bytes.
use Prim.Native.Nat.{ℕ, ◌≤◌}
use mathlib.Core.Path.{◌≡◌, refl, ap, ◌∙◌}
use mathlib.Core.Bool.{Bool, true, false}
use mathlib.Core.List.{List, [], ◌∷◌, flatten}
use native.Mathlib.Omega.{arith}
use borrow.Author.Tests.{le-leb}
use lib.Dec.{leb}
use lib.ListN.{length, get_or}
use Rattle.refusal.specs.Checks.{bare, pass, refuse, unless}
use Rattle.refusal.proofs.Passing.{before-passed, last-passed}
use Rattle.key_frame.specs.KeyFrame.{length_holds, frame_check}
use Rattle.key_frame.proofs.Frames.{attribute-length, framed}
use Rattle.radius_attributes.specs.Attributes.{whole}
use Rattle.radius_attributes.proofs.Splitting.{split-none, all_split, first-split}
use Rattle.bundle_rules.specs.Bundle.{frames_check}
use Rattle.bundle_rules.specs.Statements.{PackedBack, AllPacked, CutRefused}

-- an attribute whose frame passes has its length in its length byte, and it is 76 to 252
pub record Sized (b : List ℕ) : Type 0 where
  pub counted : get_or b 1 0 ≡ length b
  pub low : 76 ≤ length b
  pub high : length b ≤ 252

pub sized : (b : List ℕ) → frame_check b ≡ pass → Sized b
sized b e =
    let s = (framed b e).size in
    record { counted = s.counted; low = omega (arith, s.key.low); high = omega (arith, s.key.high) }

-- where all frames pass, the first does and the others do
pub first_frame : (b : List ℕ) (bodies : List (List ℕ)) → frames_check (b ∷ bodies) ≡ pass → frame_check b ≡ pass
unfolding frames_check
first_frame b bodies e = before-passed _ _ e

pub later_frames : (b : List ℕ) (bodies : List (List ℕ)) → frames_check (b ∷ bodies) ≡ pass → frames_check bodies ≡ pass
unfolding frames_check
later_frames b bodies e = last-passed _ _ e

-- bodies whose frames pass, packed end to end, are taken apart to what they were
pub packed_back : PackedBack
unfolding flatten
packed_back [] e = split-none
packed_back (b ∷ bodies) e =
    let s = sized b (first_frame b bodies e) in
    first-split b (flatten bodies) (omega (arith, s.low)) s.counted ∙ ap (λ (r : List (List ℕ)). b ∷ r) (packed_back bodies (later_frames b bodies e))

-- whatever the bytes are, what they are taken apart to is all of them
pub all_packed : AllPacked
all_packed = all_split

pub cut_refused : CutRefused
unfolding whole frame_check unless
cut_refused bytes e = go (length_holds bytes) refl
  where
    go : (t : Bool) → length_holds bytes ≡ t → frame_check bytes ≡ refuse (bare 24)
    go true q =
        let s = attribute-length bytes q in
        let n = s.counted in
        let two : leb 2 (get_or bytes 1 0) ≡ true = le-leb 2 (get_or bytes 1 0) (omega (arith, s.key.low)) in
        let fits : leb (get_or bytes 1 0) (length bytes) ≡ true = le-leb (get_or bytes 1 0) (length bytes) (omega arith) in
        let z : true ≡ false = rw (two, fits) at e in
        cc
    go false q = rw q
