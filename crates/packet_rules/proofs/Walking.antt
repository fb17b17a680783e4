-- Where the attributes of a type stand, and which lists of attributes have them at the same places.
use Prim.Native.Nat.{ℕ, suc, ◌+◌, ◌-◌, ◌≤◌}
use mathlib.Core.Path.{◌≡◌, refl, ap, ◌∙◌}
use mathlib.Core.Bool.{Bool, true, false, cond, ◌&&◌}
use mathlib.Core.List.{List, [], ◌∷◌, ◌++◌, flatten}
use native.Mathlib.Omega.{arith}
use lib.Dec.{eqb}
use lib.ListN.{length, get_or, length-append, get_or-append}
use lib.Seq.{get_or-append-add}
use Rattle.slices.proofs.Truth.{and_left}
use Rattle.radius_attributes.specs.Attributes.{whole}
use Rattle.radius_attributes.proofs.Lengths.{whole-low, whole-high}
use Rattle.packet_rules.specs.Packet.{all_whole, of_type, places_from}

pub of_whole : (type : ℕ) (a : List ℕ) → of_type type a ≡ true → whole a ≡ true
unfolding of_type
of_whole type a h = and_left _ _ h

-- where an attribute of a type stands in bytes, the first of which has the offset `at`: whole within them
pub record Stands (s : List ℕ) (at m : ℕ) : Type 0 where
  pub ahead : at ≤ m
  pub long : 2 ≤ get_or s (suc m - at) 0
  pub inside : m + get_or s (suc m - at) 0 ≤ at + length s

here : (a rest : List ℕ) (at : ℕ) → whole a ≡ true → Stands (a ++ rest) at at
here a rest at w =
    let e : suc at - at ≡ 1 = omega arith in
    let l : 2 ≤ get_or a 1 0 = whole-low a w in
    let h : get_or a 1 0 ≤ length a = whole-high a w in
    let b : get_or (a ++ rest) 1 0 ≡ get_or a 1 0 = get_or-append a rest 0 1 (omega arith) in
    let n = length-append a rest in
    record { ahead = omega arith; long = rw e (omega arith); inside = rw e (omega arith) }

-- past an attribute
past : (a rest : List ℕ) {at m : ℕ} → Stands rest (at + length a) m → Stands (a ++ rest) at m
past a rest {at} {m} r =
    let f : at + length a ≤ m = r.ahead in
    let e : suc m - at ≡ length a + (suc m - (at + length a)) = omega arith in
    let b : get_or (a ++ rest) (suc m - at) 0 ≡ get_or rest (suc m - (at + length a)) 0
    = ap (λ (k : ℕ). get_or (a ++ rest) k 0) e ∙ get_or-append-add a rest (suc m - (at + length a)) 0 in
    let l = r.long in
    let i = r.inside in
    let n = length-append a rest in
    record { ahead = omega arith; long = rw b l; inside = rw b (omega arith) }

pub stands : (type at : ℕ) (l : List (List ℕ)) {m : ℕ} {later : List ℕ} → places_from type at l ≡ m ∷ later → Stands (flatten l) at m
unfolding places_from flatten
stands type at [] e = let o : ◌≡◌ {A = ℕ} 0 1 = cc in absurd (omega arith)
stands type at (a ∷ l) {m} {later} e = go (of_type type a) refl (λ f. stands type (at + length a) l f) e
  where
    go : (t : Bool) → of_type type a ≡ t
        → (places_from type (at + length a) l ≡ m ∷ later → Stands (flatten l) (at + length a) m)
        → cond t (at ∷ places_from type (at + length a) l) (places_from type (at + length a) l) ≡ m ∷ later
        → Stands (a ++ flatten l) at m
    go true h ih e = let k : at ≡ m = cc in rw (← k) (here a (flatten l) at (of_whole type a h))
    go false h ih e = past a (flatten l) (ih e)

-- lists of attributes that differ in values alone
pub data Alike : List (List ℕ) → List (List ℕ) → Type 0 where
  none : Alike [] []
  both : {a b : List ℕ} {l m : List (List ℕ)} → whole a ≡ whole b → get_or a 0 0 ≡ get_or b 0 0 → length a ≡ length b → Alike l m → Alike (a ∷ l) (b ∷ m)

pub alike_refl : (l : List (List ℕ)) → Alike l l
alike_refl [] = none
alike_refl (a ∷ l) = both refl refl refl (alike_refl l)

pub alike_whole : {l m : List (List ℕ)} → Alike l m → all_whole l ≡ all_whole m
unfolding all_whole
alike_whole none = refl
alike_whole (both w t n r) = λ i. w i && alike_whole r i

pub alike_places : (type at : ℕ) {l m : List (List ℕ)} → Alike l m → places_from type at l ≡ places_from type at m
unfolding places_from of_type
alike_places type at none = refl
alike_places type at (both {a = a} {m = m} w t n r) =
    let later = alike_places type (at + length a) r ∙ ap (λ (k : ℕ). places_from type (at + k) m) n in
    λ i. cond (w i && eqb (t i) type) (at ∷ later i) (later i)
