-- The position of the first supported offer, by induction over the list of offers; and which values are the first of a list, and which stand in it.
use Prim.Native.Nat.{ℕ, zero, suc, ◌≤◌, ◌<◌}
use mathlib.Core.Path.{◌≡◌, refl}
use mathlib.Core.Bool.{Bool, true, false, cond}
use mathlib.Core.List.{List, [], ◌∷◌}
use native.Mathlib.Omega.{arith}
use borrow.Author.Tests.{eqb-true, eq-eqb}
use lib.Dec.{eqb}
use lib.ListN.{length, get_or}
use Rattle.slices.proofs.Truth.{or_true}
use Rattle.offer_rules.specs.Rfc5448.{stands, first_supported, is_first}

pub first_here : (offers supported : List ℕ) → first_supported offers supported < length offers → stands (get_or offers (first_supported offers supported) 0) supported ≡ true
unfolding first_supported
first_here [] supported h = let none : ⊥ = omega arith in elim none [ ]
first_here (x ∷ offers) supported h = go (stands x supported) refl (first_here offers supported) h
  where
    go : (t : Bool) → stands x supported ≡ t
        → (first_supported offers supported < length offers → stands (get_or offers (first_supported offers supported) 0) supported ≡ true)
        → cond t 0 (suc (first_supported offers supported)) < suc (length offers)
        → stands (get_or (x ∷ offers) (cond t 0 (suc (first_supported offers supported))) 0) supported ≡ true
    go true e ih k = e
    go false e ih k = ih (omega arith)

pub first-within : (offers supported : List ℕ) → first_supported offers supported ≤ length offers
unfolding first_supported
first-within [] supported = omega arith
first-within (x ∷ offers) supported = go (stands x supported) (first-within offers supported)
  where
    go : (t : Bool) → first_supported offers supported ≤ length offers → cond t 0 (suc (first_supported offers supported)) ≤ suc (length offers)
    go true ih = omega arith
    go false ih = omega arith

pub none_before : (offers supported : List ℕ) (j : ℕ) → j < first_supported offers supported → stands (get_or offers j 0) supported ≡ false
unfolding first_supported
none_before [] supported j h = let none : ⊥ = omega arith in elim none [ ]
none_before (x ∷ offers) supported j h = go (stands x supported) refl (none_before offers supported) j h
  where
    go : (t : Bool) → stands x supported ≡ t
        → ((j : ℕ) → j < first_supported offers supported → stands (get_or offers j 0) supported ≡ false)
        → (j : ℕ) → j < cond t 0 (suc (first_supported offers supported)) → stands (get_or (x ∷ offers) j 0) supported ≡ false
    go true e ih j k = let none : ⊥ = omega arith in elim none [ ]
    go false e ih zero k = e
    go false e ih (suc j) k = ih j (omega arith)

-- a value that passes a test which the first of the list does not pass is not that first
pub not_first : (p : ℕ → Bool) (value : ℕ) (list : List ℕ) → p value ≡ true → p (get_or list 0 0) ≡ false → is_first value list ≡ false
unfolding is_first
not_first p value [] h k = refl
not_first p value (x ∷ list) h k = go (eqb x value) refl
  where
    go : (t : Bool) → eqb x value ≡ t → eqb x value ≡ false
    go true e = let same : x ≡ value = eqb-true x value e in cc
    go false e = e

-- the value of an offer stands among the offers
pub stands_at : (list : List ℕ) (i : ℕ) → i < length list → stands (get_or list i 0) list ≡ true
unfolding stands
stands_at [] i h = let none : ⊥ = omega arith in elim none [ ]
stands_at (x ∷ list) zero h = rw (eq-eqb x x refl)
stands_at (x ∷ list) (suc i) h = or_true (eqb x (get_or list i 0)) _ (stands_at list i (omega arith))
