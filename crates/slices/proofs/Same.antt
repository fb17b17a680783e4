-- The test whether two lists are the same holds exactly of equal lists, and so of none of different lengths.
use Prim.Native.Nat.{ℕ, ◌+◌, ◌≤◌, ◌<◌}
use mathlib.Core.Path.{◌≡◌, refl, sym, ap, ◌∙◌}
use mathlib.Core.Bool.{Bool, true, false, ◌&&◌, and_assoc, and-true}
use mathlib.Core.List.{List, [], ◌∷◌}
use borrow.Author.Tests.{eq-eqb, eqb-true, eqb-false, ne_eqb}
use lib.Bits.{bit_or, bit_xor, or_add_and, xor_add_and, and_le_l, and_le_r, xor_self}
use native.Mathlib.Omega.{arith}
use lib.Dec.{eqb}
use native.Mathlib.Numerals.{add-one}
use lib.ListN.{length, get_or, drop, drop_of_length-le}
use lib.Seq.{drop-cons}
use Rattle.slices.specs.Same.{same_list, SameExactly}
use Rattle.slices.proofs.Truth.{and_left, and_right}

pub same_equal : (s t : List ℕ) → same_list s t ≡ true → s ≡ t
unfolding same_list
same_equal [] [] e = refl
same_equal [] (y ∷ t) e = cc
same_equal (x ∷ s) [] e = cc
same_equal (x ∷ s) (y ∷ t) e =
    let head = eqb-true x y (and_left _ _ e) in
    let tail = same_equal s t (and_right (eqb x y) _ e) in
    cc

pub equal_same : (s : List ℕ) → same_list s s ≡ true
unfolding same_list
equal_same [] = refl
equal_same (x ∷ s) = rw (eq-eqb x x refl) (equal_same s)

pub same_exactly : SameExactly
same_exactly s t = (same_equal s t, λ e. rw (← e) (equal_same s))

pub lengths_differ : (s t : List ℕ) → (length s ≡ length t → ⊥) → false ≡ same_list s t
lengths_differ s t ne = go (same_list s t) refl
  where
    go : (b : Bool) → same_list s t ≡ b → false ≡ same_list s t
    go true e = elim (ne (ap length (same_equal s t e))) [ ]
    go false e = sym e

-- a loop that compares element by element: what it has found so far, and what is left to compare
same_step : (s t : List ℕ) (i : ℕ) → i < length s → i < length t
    → same_list (drop i s) (drop i t) ≡ (eqb (get_or s i 0) (get_or t i 0) && same_list (drop (i + 1) s) (drop (i + 1) t))
unfolding same_list
same_step s t i h₁ h₂ = rw (add-one, drop-cons s i 0, drop-cons t i 0)

-- one difference more is gathered: still none exactly if there was none and the bytes are equal
gathered : (d x y : ℕ) → eqb (bit_or d (bit_xor x y)) 0 ≡ (eqb d 0 && eqb x y)
gathered d x y = go (eqb d 0) refl (eqb x y) refl
  where
    go : (p : Bool) → eqb d 0 ≡ p → (q : Bool) → eqb x y ≡ q → eqb (bit_or d (bit_xor x y)) 0 ≡ (p && q)
    go true e true f =
        let i : d ≡ 0 = eqb-true d 0 e in
        let j : x ≡ y = eqb-true x y f in
        rw (i, j, xor_self y)
    go true e false f =
        let n : x ≡ y → ⊥ = eqb-false x y f in
        ne_eqb (bit_or d (bit_xor x y)) 0 (λ z. n (omega (arith, z, or_add_and d (bit_xor x y), and_le_l d (bit_xor x y), xor_add_and x y, and_le_l x y, and_le_r x y)))
    go false e q f =
        let n : d ≡ 0 → ⊥ = eqb-false d 0 e in
        ne_eqb (bit_or d (bit_xor x y)) 0 (λ z. n (omega (arith, z, or_add_and d (bit_xor x y), and_le_r d (bit_xor x y))))

module _ (s t : List ℕ) (i differ : ℕ) (inv : same_list s t ≡ (eqb differ 0 && same_list (drop i s) (drop i t))) where
  pub same_on : i < length s → i < length t
      → same_list s t ≡ (eqb (bit_or differ (bit_xor (get_or s i 0) (get_or t i 0))) 0 && same_list (drop (i + 1) s) (drop (i + 1) t))
  same_on h₁ h₂ = inv ∙ rw (gathered differ (get_or s i 0) (get_or t i 0), same_step s t i h₁ h₂) (sym (and_assoc (eqb differ 0) _ _))

  pub same_end : length s ≤ i → length t ≤ i → eqb differ 0 ≡ same_list s t
  unfolding same_list
  same_end h₁ h₂ = sym (inv ∙ rw (drop_of_length-le s h₁, drop_of_length-le t h₂) (and-true (eqb differ 0)))
