-- The two ways of reading an area, beside each other. The walk itself never refuses by 30.
use Prim.Native.Nat.{ℕ, ◌+◌}
use mathlib.Core.Path.{◌≡◌, refl}
use mathlib.Core.Bool.{Bool, true, false, cond}
use mathlib.Core.List.{List, [], ◌∷◌, ◌++◌}
use native.Mathlib.Omega.{arith}
use lib.Dec.{leb, ltb}
use lib.ListN.{length}
use Rattle.refusal.specs.Checks.{bare, unless}
use Rattle.area_format.specs.declared.Attribute.TheVariants.{Offer, Named, Other, Faulty}
use Rattle.area_format.specs.declared.Fault.{Fault}
use Rattle.area_format.specs.declared.Fault.TheVariants.{AttributeBounds, KdfLength, KdfInput, KdfInputPadding, NetworkName, OfferCount}
use Rattle.area_format.specs.declared.Name.{Name}
use Rattle.std.specs.Prelude.{Option, Some, None}
use Rattle.area_format.specs.declared.Way.TheVariants.{Strict}
use Rattle.area_format.specs.Area.{Standing, standing, attributes, Reading, whole, refusal, fault_at, read_on, guarded}
use Rattle.area_format.specs.Area.{agrees, judged, walked, reading, answered, refused, area_answer_to, area_answer, area_buffer}
use Rattle.area_format.proofs.Ending.{not-ended}
use Rattle.area_format.specs.Statements.{LenientAsBefore, StrictAgrees, StrictRefuses}

-- no fault has the number 30
not_fault : (at : ℕ) (x : Fault) → fault_at at x ≡ bare 30 → ⊥
not_fault at AttributeBounds e = let z : ◌≡◌ {A = ℕ} 16 30 = cc in omega arith
not_fault at KdfLength e = let z : ◌≡◌ {A = ℕ} 17 30 = cc in omega arith
not_fault at KdfInput e = let z : ◌≡◌ {A = ℕ} 18 30 = cc in omega arith
not_fault at KdfInputPadding e = let z : ◌≡◌ {A = ℕ} 29 30 = cc in omega arith
not_fault at NetworkName e = let z : ◌≡◌ {A = ℕ} 19 30 = cc in omega arith
not_fault at OfferCount e = let z : ◌≡◌ {A = ℕ} 10 30 = cc in omega arith

not_read : (offers : List ℕ) (name : Option Name) (later : List Standing) → read_on offers name later ≡ refusal (bare 30) → ⊥
unfolding read_on
not_read offers name [] e =
    not-ended offers name (λ f. let z : ◌≡◌ {A = ℕ} 19 30 = cc in omega arith) (λ f. let z : ◌≡◌ {A = ℕ} 10 30 = cc in omega arith) e
not_read offers name (standing at (Faulty x) ∷ later) e = not_fault at x cc
not_read offers name (standing at Other ∷ later) e = not_read offers name later e
not_read offers name (standing at (Offer v) ∷ later) e = go (ltb (length offers) 17) _ (not_read (offers ++ (v ∷ [])) name later) e
  where
    go : (t : Bool) (r : Reading) → (r ≡ refusal (bare 30) → ⊥) → cond t r (refusal (bare 10)) ≡ refusal (bare 30) → ⊥
    go true r never e = never e
    go false r never e = let z : ◌≡◌ {A = ℕ} 10 30 = cc in omega arith
not_read offers None (standing at (Named len) ∷ later) e = not_read offers (Some (record { at = at + 4; len = len })) later e
not_read offers (Some met) (standing at (Named len) ∷ later) e = let z : ◌≡◌ {A = ℕ} 19 30 = cc in omega arith

not-walked : (area : List ℕ) (room : ℕ) → walked area room ≡ refusal (bare 30) → ⊥
unfolding walked unless
not-walked area room e = go (leb 17 room) e
  where
    go : (t : Bool) → guarded (unless t (bare 6)) (read_on [] None (attributes area)) ≡ refusal (bare 30) → ⊥
    go true e = not_read [] None (attributes area) e
    go false e = let z : ◌≡◌ {A = ℕ} 6 30 = cc in omega arith

pub lenient_as_before : LenientAsBefore
unfolding area_answer area_buffer reading
lenient_as_before area own out room = (refl, refl)

pub strict_agrees : StrictAgrees
unfolding area_answer reading
strict_agrees area own room count at len same e = go (walked area room) e
  where
    go : (r : Reading) → area_answer_to area own (judged Strict area own r) ≡ answered count at len same → same ≡ true
    go (refusal x) e = let z : ◌≡◌ {A = ℕ} 0 1 = cc in let none : ⊥ = omega arith in elim none [ ]
    go (whole offers i n) e = test (agrees area own i n) refl e
      where
        test : (t : Bool) → agrees area own i n ≡ t → area_answer_to area own (cond t (whole offers i n) (refusal (bare 30))) ≡ answered count at len same → same ≡ true
        test true h e = cc
        test false h e = let z : ◌≡◌ {A = ℕ} 0 1 = cc in let none : ⊥ = omega arith in elim none [ ]

pub strict_refuses : StrictRefuses
unfolding area_answer reading
strict_refuses area own room = (forth (walked area room) (not-walked area room), λ f. back (walked area room) f.0 f.1 f.2 f.3)
  where
    forth : (r : Reading) → (r ≡ refusal (bare 30) → ⊥) → area_answer_to area own (judged Strict area own r) ≡ refused (bare 30)
        → (count : ℕ) × (at : ℕ) × (len : ℕ) × (area_answer_to area own r ≡ answered count at len false)
    forth (refusal x) never e = let f : refusal x ≡ refusal (bare 30) = cc in elim (never f) [ ]
    forth (whole offers i n) never e = test (agrees area own i n) refl e
      where
        test : (t : Bool) → agrees area own i n ≡ t → area_answer_to area own (cond t (whole offers i n) (refusal (bare 30))) ≡ refused (bare 30)
            → (count : ℕ) × (at : ℕ) × (len : ℕ) × (answered (length offers) i n (agrees area own i n) ≡ answered count at len false)
        test true h e = let z : ◌≡◌ {A = ℕ} 0 1 = cc in let none : ⊥ = omega arith in elim none [ ]
        test false h e = (length offers, i, n, rw h)

    back : (r : Reading) (count at len : ℕ) → area_answer_to area own r ≡ answered count at len false → area_answer_to area own (judged Strict area own r) ≡ refused (bare 30)
    back (refusal x) count at len e = let z : ◌≡◌ {A = ℕ} 0 1 = cc in let none : ⊥ = omega arith in elim none [ ]
    back (whole offers i n) count at len e = let h : agrees area own i n ≡ false = cc in rw h
