-- A reading has at most 17 offers.
use Prim.Native.Nat.{ℕ, ◌+◌, ◌≤◌}
use mathlib.Core.Path.{◌≡◌, refl}
use mathlib.Core.Bool.{Bool, true, false, cond}
use mathlib.Core.List.{List, [], ◌∷◌, ◌++◌}
use native.Mathlib.Omega.{arith}
use borrow.Author.Tests.{ltb-true}
use lib.Dec.{ltb, eqb}
use lib.ListN.{length, length-append}
use Rattle.refusal.specs.Checks.{Check, pass, refuse, check6}
use Rattle.area_format.specs.declared.Attribute.TheVariants.{Offer, Named, Other, Faulty}
use Rattle.area_format.specs.declared.Name.{Name}
use Rattle.std.specs.Prelude.{Option, Some, None}
use Rattle.area_format.specs.Area.{Reading, whole, refusal, Standing, standing, ended, read_on, guarded, agrees, judged, walked, reading, attributes}
use Rattle.area_format.specs.declared.Way.{Way}
use Rattle.area_format.specs.declared.Way.TheVariants.{Strict, Lenient}

-- of a reading that is whole
abbrev pub Few : Reading → Type 0
Few (whole offers at len) = length offers ≤ 17
Few (refusal x) = Unit {0}

few_cond : (t : Bool) (a b : Reading) → (t ≡ true → Few a) → Few b → Few (cond t a b)
few_cond true a b ha hb = ha refl
few_cond false a b ha hb = hb

few_ended : (offers : List ℕ) (name : Option Name) → length offers ≤ 17 → Few (ended offers name)
few_ended offers None h = tt
few_ended offers (Some name) h = few_cond (eqb (length offers) 0) _ _ (λ e. tt) h

few_on : (offers : List ℕ) (name : Option Name) (later : List Standing) → length offers ≤ 17 → Few (read_on offers name later)
unfolding read_on
few_on offers name [] h = few_ended offers name h
few_on offers name (standing at (Faulty x) ∷ later) h = tt
few_on offers name (standing at Other ∷ later) h = few_on offers name later h
few_on offers name (standing at (Offer v) ∷ later) h =
    few_cond (ltb (length offers) 17) _ _
    (λ e.
    let less = ltb-true (length offers) 17 e in
    few_on (offers ++ (v ∷ [])) name later (simp length-append (omega arith)))
    tt
few_on offers None (standing at (Named len) ∷ later) h = few_on offers (Some (record { at = at + 4; len = len })) later h
few_on offers (Some met) (standing at (Named len) ∷ later) h = tt

few_guarded : (c : Check) (r : Reading) → Few r → Few (guarded c r)
few_guarded pass r h = h
few_guarded (refuse x) r h = tt

few_judged : (way : Way) (area own : List ℕ) (r : Reading) → Few r → Few (judged way area own r)
few_judged Lenient area own r h = h
few_judged Strict area own (refusal x) h = tt
few_judged Strict area own (whole offers at len) h = few_cond (agrees area own at len) _ _ (λ e. h) tt

pub few : (way : Way) (area own : List ℕ) (room : ℕ) → Few (reading way area own room)
unfolding reading walked
few way area own room = few_judged way area own (walked area room) (few_guarded (check6 17 room) _ (few_on [] None (attributes area) (omega arith)))
