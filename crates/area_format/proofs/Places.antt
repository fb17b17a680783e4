-- 16 carries the offset of the attribute that is not within the area: by induction on the bytes that are left to be read.
use Prim.Native.Nat.{ℕ, zero, suc, ◌+◌, ◌-◌, ◌*◌, ◌<◌}
use mathlib.Core.Path.{◌≡◌, refl, ap, ◌∙◌}
use mathlib.Core.Bool.{Bool, true, false, cond}
use mathlib.Core.List.{List, [], ◌∷◌, ◌++◌}
use native.Mathlib.Omega.{arith}
use lib.Dec.{leb, ltb, eqb}
use lib.ListN.{length, get_or, drop}
use Rattle.refusal.specs.Checks.{bare, located, unless}
use Rattle.area_format.specs.declared.Attribute.{Attribute}
use Rattle.area_format.specs.declared.Attribute.TheVariants.{Offer, Named, Other, Faulty}
use Rattle.area_format.specs.declared.Fault.TheVariants.{AttributeBounds, KdfLength, KdfInput, KdfInputPadding, NetworkName, OfferCount}
use Rattle.area_format.specs.declared.Name.{Name}
use Rattle.std.specs.Prelude.{Option, Some, None}
use Rattle.area_format.specs.Area.{words_of, number_of, type_of, words_for, padding, zeros, in_bounds, kdf, kdf_input, attribute, Standing, standing, attributes_from}
use Rattle.area_format.specs.Area.{attributes, Reading, whole, refusal, read_on, guarded, agrees, judged, walked, reading, refused, area_answer_to, area_answer}
use Rattle.area_format.specs.declared.Way.{Way}
use Rattle.area_format.specs.declared.Way.TheVariants.{Strict, Lenient}
use Rattle.area_format.specs.Statements.{BoundsPlace}
use Rattle.area_format.proofs.Ending.{not-ended}

-- one of two that are not so is not so
cond-not : {a b c : Attribute} (t : Bool) → (a ≡ c → ⊥) → (b ≡ c → ⊥) → cond t a b ≡ c → ⊥
cond-not true na nb e = na e
cond-not false na nb e = nb e

-- no attribute by itself is outside the area
never : (bytes : List ℕ) → attribute bytes ≡ Faulty AttributeBounds → ⊥
unfolding attribute kdf kdf_input
never bytes =
    cond-not (eqb (type_of bytes) 24)
    (cond-not (eqb (words_of bytes).0 1) (λ e. let z : ◌≡◌ {A = ℕ} 0 1 = cc in omega arith) (λ e. let z : ◌≡◌ {A = ℕ} 0 1 = cc in omega arith))
    (cond-not (eqb (type_of bytes) 23)
    (cond-not (eqb (words_of bytes).0 (words_for (number_of bytes)))
    (cond-not (zeros (padding bytes (number_of bytes))) (λ e. let z : ◌≡◌ {A = ℕ} 0 1 = cc in omega arith) (λ e. let z : ◌≡◌ {A = ℕ} 0 1 = cc in omega arith))
    (λ e. let z : ◌≡◌ {A = ℕ} 0 1 = cc in omega arith))
    (λ e. let z : ◌≡◌ {A = ℕ} 0 1 = cc in omega arith))

-- past an attribute that is none such, 16 is met later
later_16 : (at : ℕ) (m : Attribute) (later : List Standing) (offers : List ℕ) (name : Option Name) {i : ℕ} → (m ≡ Faulty AttributeBounds → ⊥)
    → read_on offers name (standing at m ∷ later) ≡ refusal (located 16 i) → (o : List ℕ) × (n : Option Name) × (read_on o n later ≡ refusal (located 16 i))
unfolding read_on
later_16 at (Faulty AttributeBounds) later offers name not e = elim (not refl) [ ]
later_16 at (Faulty KdfLength) later offers name not e = let z : ◌≡◌ {A = ℕ} 0 1 = cc in let none : ⊥ = omega arith in elim none [ ]
later_16 at (Faulty KdfInput) later offers name not e = let z : ◌≡◌ {A = ℕ} 0 1 = cc in let none : ⊥ = omega arith in elim none [ ]
later_16 at (Faulty KdfInputPadding) later offers name not e = let z : ◌≡◌ {A = ℕ} 0 1 = cc in let none : ⊥ = omega arith in elim none [ ]
later_16 at (Faulty NetworkName) later offers name not e = let z : ◌≡◌ {A = ℕ} 0 1 = cc in let none : ⊥ = omega arith in elim none [ ]
later_16 at (Faulty OfferCount) later offers name not e = let z : ◌≡◌ {A = ℕ} 0 1 = cc in let none : ⊥ = omega arith in elim none [ ]
later_16 at Other later offers name not e = (offers, name, e)
later_16 at (Offer v) later offers name {i} not e = go (ltb (length offers) 17) _ e
  where
    go : (t : Bool) (o : List ℕ) → cond t (read_on o name later) (refusal (bare 10)) ≡ refusal (located 16 i) → (o : List ℕ) × (n : Option Name) × (read_on o n later ≡ refusal (located 16 i))
    go true o e = (o, name, e)
    go false o e = let z : ◌≡◌ {A = ℕ} 0 1 = cc in let none : ⊥ = omega arith in elim none [ ]
later_16 at (Named len) later offers None not e = (offers, Some (record { at = at + 4; len = len }), e)
later_16 at (Named len) later offers (Some met) not e = let z : ◌≡◌ {A = ℕ} 0 1 = cc in let none : ⊥ = omega arith in elim none [ ]

-- the bytes that stand at an offset, and their attributes, of which the last is outside the area, at the offset i
record Outside (at i : ℕ) (bytes : List ℕ) (all : List Standing) : Type 0 where
  past : ℕ
  place : i ≡ at + past
  within : past < length bytes
  out : in_bounds (drop past bytes) ≡ false
  before : List Standing
  last : all ≡ before ++ (standing i (Faulty AttributeBounds) ∷ [])

met_16 : (left at : ℕ) (bytes offers : List ℕ) (name : Option Name) {i : ℕ}
    → read_on offers name (attributes_from left at bytes) ≡ refusal (located 16 i) → Outside at i bytes (attributes_from left at bytes)
unfolding attributes_from read_on
met_16 left at [] offers name e =
    elim (not-ended offers name (λ f. let z : ◌≡◌ {A = ℕ} 19 16 = cc in omega arith) (λ f. let z : ◌≡◌ {A = ℕ} 10 16 = cc in omega arith) e) [ ]
met_16 (suc left) at (x ∷ rest) offers name {i} e =
    let o = met_16 left (suc at) rest offers name e in
    let p : i ≡ suc at + o.past = o.place in
    let w : o.past < length rest = o.within in
    record { past = suc o.past; place = omega arith; within = omega arith; out = o.out; before = o.before; last = o.last }
met_16 zero at (x ∷ rest) offers name {i} e = go (in_bounds (x ∷ rest)) refl (λ o n f. met_16 (4 * get_or (x ∷ rest) 1 0 - 1) (suc at) rest o n f) e
  where
    go : (t : Bool) → in_bounds (x ∷ rest) ≡ t
        → ((o : List ℕ) (n : Option Name) → read_on o n (attributes_from (4 * get_or (x ∷ rest) 1 0 - 1) (suc at) rest) ≡ refusal (located 16 i)
        → Outside (suc at) i rest (attributes_from (4 * get_or (x ∷ rest) 1 0 - 1) (suc at) rest))
        → read_on offers name (cond t (standing at (attribute (x ∷ rest)) ∷ attributes_from (4 * get_or (x ∷ rest) 1 0 - 1) (suc at) rest) (standing at (Faulty AttributeBounds) ∷ []))
        ≡ refusal (located 16 i)
        → Outside at i (x ∷ rest) (cond t (standing at (attribute (x ∷ rest)) ∷ attributes_from (4 * get_or (x ∷ rest) 1 0 - 1) (suc at) rest) (standing at (Faulty AttributeBounds) ∷ []))
    go true h ih e =
        let l = later_16 at (attribute (x ∷ rest)) (attributes_from (4 * get_or (x ∷ rest) 1 0 - 1) (suc at) rest) offers name (never (x ∷ rest)) e in
        let o = ih l.0 l.1 l.2 in
        let p : i ≡ suc at + o.past = o.place in
        let w : o.past < length rest = o.within in
        let last = ap (λ (l : List Standing). standing at (attribute (x ∷ rest)) ∷ l) o.last in
        record { past = suc o.past; place = omega arith; within = omega arith; out = o.out; before = standing at (attribute (x ∷ rest)) ∷ o.before; last = last }
    go false h ih e =
        let p : at ≡ i = cc in
        record { past = 0; place = omega arith; within = omega arith; out = h; before = []; last = ap (λ (k : ℕ). standing k (Faulty AttributeBounds) ∷ []) p }

-- an answer of 16 is a reading of 16 by the walk, past the test of the room and before the name is judged
read_16 : (way : Way) (area own : List ℕ) (room i : ℕ) → area_answer way area own room ≡ refused (located 16 i) → read_on [] None (attributes area) ≡ refusal (located 16 i)
unfolding area_answer reading walked unless
read_16 way area own room i e = go (leb 17 room) (read_on [] None (attributes area)) way e
  where
    judge : (t : Bool) (offers : List ℕ) (at len : ℕ) → area_answer_to area own (cond t (whole offers at len) (refusal (bare 30))) ≡ refused (located 16 i) → ⊥
    judge true offers at len e = let z : ◌≡◌ {A = ℕ} 0 1 = cc in omega arith
    judge false offers at len e = let z : ◌≡◌ {A = ℕ} 0 1 = cc in omega arith

    go : (t : Bool) (r : Reading) (way : Way) → area_answer_to area own (judged way area own (guarded (unless t (bare 6)) r)) ≡ refused (located 16 i) → r ≡ refusal (located 16 i)
    go true (whole offers at len) Lenient e = let z : ◌≡◌ {A = ℕ} 0 1 = cc in let none : ⊥ = omega arith in elim none [ ]
    go true (whole offers at len) Strict e = elim (judge (agrees area own at len) offers at len e) [ ]
    go true (refusal x) Lenient e = cc
    go true (refusal x) Strict e = cc
    go false r Lenient e = let z : ◌≡◌ {A = ℕ} 0 1 = cc in let none : ⊥ = omega arith in elim none [ ]
    go false r Strict e = let z : ◌≡◌ {A = ℕ} 0 1 = cc in let none : ⊥ = omega arith in elim none [ ]

pub bounds_place : BoundsPlace
unfolding attributes
bounds_place way area own room i e =
    let o = met_16 0 0 area [] None (read_16 way area own room i e) in
    let q : i ≡ 0 + o.past = o.place in
    let p : i ≡ o.past = omega arith in
    let w : o.past < length area = o.within in
    (omega arith, (o.before, o.last), ap (λ (k : ℕ). in_bounds (drop k area)) p ∙ o.out)
