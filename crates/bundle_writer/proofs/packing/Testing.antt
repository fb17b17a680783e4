-- The writer's tests of packed attributes, in their order.
use Prim.Native.Nat.{ℕ}
use mathlib.Core.Path.{◌≡◌, refl}
use mathlib.Core.Bool.{Bool, true, false, not}
use mathlib.Core.List.{List, map}
use lib.ListN.{length}
use Rattle.refusal.specs.Checks.{Reason, pass, refuse, bare, unless, within}
use Rattle.refusal.specs.Answers.{Answer, returned, refused, answer_to}
use Rattle.bundle_rules.specs.Bundle.{key_id_in, id_repeats, packed, frames_check, packed_check}

-- a test that refuses does not hold, and its refusal is its own
pub stopped : (t : Bool) (x : Reason) {y : Reason} {out : Answer} → refuse y ≡ unless t x → out ≡ refused y → (t ≡ false) × (out ≡ refused x)
unfolding unless
stopped true x e o = (cc, cc)
stopped false x e o = (cc, cc)

module _ (a : List ℕ) where
  pub packed_frames : {x : Reason} → frames_check (packed a) ≡ refuse x → refused x ≡ answer_to (packed_check a) (length (packed a))
  unfolding packed_check
  packed_frames e = rw e refl

  module _ (c : frames_check (packed a) ≡ pass) {n : ℕ} (q : n ≡ length (packed a)) where
    pub packed-miscounted : within 1 64 n ≡ false → refused (bare 39) ≡ answer_to (packed_check a) (length (packed a))
    unfolding packed_check unless
    packed-miscounted t = rw (c, ← q, t) refl

    module _ (range : within 1 64 n ≡ true) {r : Bool} (twice : r ≡ id_repeats (map key_id_in (packed a))) where
      pub packed-twice : not r ≡ false → refused (bare 42) ≡ answer_to (packed_check a) (length (packed a))
      unfolding packed_check unless
      packed-twice t = rw (c, ← q, range, ← twice, t) refl

      pub packed-passes : not r ≡ true → returned n ≡ answer_to (packed_check a) (length (packed a))
      unfolding packed_check unless
      packed-passes t = rw (c, ← q, range, ← twice, t) refl
