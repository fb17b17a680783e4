-- The tests of a file in their order: what they come to where the first that does not hold is known, and where all before the bodies hold.
use Prim.Native.Nat.{ℕ}
use mathlib.Core.Path.{◌≡◌, ◌∙◌}
use mathlib.Core.Bool.{Bool, true, false, not}
use mathlib.Core.List.{List}
use lib.Dec.{eqb, leb}
use lib.ListN.{length}
use Rattle.refusal.specs.Checks.{Reason, Check, refuse, bare, unless, within}
use Rattle.bundle_rules.specs.Bundle.{contents_end, id_repeats, Line, lines_from, count_in, follow, last_end, ids_of, bodies_check, contents_check, bundle_check}

-- a test that refuses does not hold, and its refusal is its own
pub stopped : (t : Bool) (x : Reason) {y : Reason} {out : Check} → refuse y ≡ unless t x → out ≡ refuse y → (t ≡ false) × (out ≡ refuse x)
unfolding unless
stopped true x e o = (cc, cc)
stopped false x e o = (cc, o ∙ e)

module _ (f : List ℕ) where
  pub bundle_short : leb 2 (length f) ≡ false → bundle_check f ≡ refuse (bare 39)
  unfolding bundle_check contents_check unless
  bundle_short t = rw t

  module _ (n : ℕ) (count : n ≡ count_in f) (two : leb 2 (length f) ≡ true) where
    pub bundle_miscounted : within 1 64 n ≡ false → bundle_check f ≡ refuse (bare 39)
    unfolding bundle_check contents_check unless
    bundle_miscounted t = rw (← count, two, t)

    module _ (range : within 1 64 n ≡ true) where
      pub bundle_cut : leb (contents_end n) (length f) ≡ false → bundle_check f ≡ refuse (bare 40)
      unfolding bundle_check contents_check unless
      bundle_cut t = rw (← count, two, range, t)

      module _ (inside : leb (contents_end n) (length f) ≡ true) {lines : List Line} (all : lines ≡ lines_from f 0 n) where
        pub bundle_gap : follow (contents_end n) lines ≡ false → bundle_check f ≡ refuse (bare 40)
        unfolding bundle_check contents_check unless
        bundle_gap t = rw (← count, ← all, two, range, inside, t)

        module _ (following : follow (contents_end n) lines ≡ true) {end : ℕ} (last : end ≡ last_end (contents_end n) lines) where
          pub bundle_end : eqb end (length f) ≡ false → bundle_check f ≡ refuse (bare 41)
          unfolding bundle_check contents_check unless
          bundle_end t = rw (← count, ← all, two, range, inside, following, ← last, t)

          module _ (ending : eqb end (length f) ≡ true) {r : Bool} (twice : r ≡ id_repeats (ids_of lines)) where
            pub bundle_twice : not r ≡ false → bundle_check f ≡ refuse (bare 42)
            unfolding bundle_check contents_check unless
            bundle_twice t = rw (← count, ← all, two, range, inside, following, ← last, ending, ← twice, t)

            -- what is left once 39, 40, 41 and 42 pass
            pub bundle_bodies : not r ≡ true → bundle_check f ≡ bodies_check f lines
            unfolding bundle_check contents_check unless
            bundle_bodies t = rw (← count, ← all, two, range, inside, following, ← last, ending, ← twice, t)
