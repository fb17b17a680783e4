-- A walk through attributes: a step from a place of the bytes to where the next attribute begins.
use Prim.Native.Nat.{ℕ, ◌+◌, ◌-◌, ◌≤◌, ◌<◌}
use mathlib.Core.Path.{◌≡◌, ap, ◌∙◌}
use mathlib.Core.List.{List, [], ◌∷◌}
use native.Mathlib.Omega.{arith}
use lib.ListN.{length, take, drop, length-drop, drop_of_length-le}
use lib.Seq.{drop-drop}
use Rattle.slices.proofs.Lists.{rest_drop}
use Rattle.radius_attributes.specs.Attributes.{attribute_length, split}
use Rattle.radius_attributes.proofs.Lengths.{length_some, length_fits}
use Rattle.radius_attributes.proofs.Splitting.{split_next, split-none}

-- where an attribute begins and how long it is
pub record Step (bytes : List ℕ) (at n : ℕ) : Type 0 where
  pub some : 1 ≤ n
  pub inside : at + n ≤ length bytes
  pub next : split (drop at bytes) ≡ take n (drop at bytes) ∷ split (drop (at + n) bytes)

pub step_at_lem : (bytes : List ℕ) (at n : ℕ) → at < length bytes → n ≡ attribute_length (drop at bytes) → Step bytes at n
step_at_lem bytes at n h q =
    let d = length-drop at bytes in
    let s = length_some (drop at bytes) (omega arith) in
    let f = length_fits (drop at bytes) in
    let p = split_next (drop at bytes) (omega arith) in
    record {
      some = omega arith;
      inside = omega arith;
      next = rw (← q, drop-drop n at bytes) at p;
    }

-- by the part from there on, as it is lent
pub step : (bytes : List ℕ) (at n : ℕ) → at < length bytes → n ≡ attribute_length (take (length bytes - at) (drop at bytes)) → Step bytes at n
step bytes at n h e = step_at_lem bytes at n h (e ∙ ap attribute_length (rest_drop at bytes))

-- nothing is left at the end
pub none_left : (bytes : List ℕ) (at : ℕ) → length bytes ≤ at → split (drop at bytes) ≡ []
none_left bytes at h = ap split (drop_of_length-le bytes h) ∙ split-none
