-- Laws of a step of the reader: what it leaves to be read.
use Rattle.std.proofs.Common.{◌≡◌, refl, sym, ap, ◌∙◌, ℕ, zero, suc, ◌+◌, ◌-◌, ◌*◌, ◌≤◌, ◌<◌, Bool, true, false, cond, Option, Some, None, unwrap_or, List, [], ◌∷◌, length, get_or, drop, arith}
use native.Mathlib.Nat.{add-zero}
use lib.ListN.{length-drop, drop_of_length-le}
use lib.Seq.{drop-drop}
use Rattle.area_format.specs.Area.{words_of, in_bytes, in_bounds, attribute, Standing, standing, attributes_from}
use Rattle.area_format.specs.declared.Attribute.{Attribute}
use Rattle.area_format.specs.declared.Attribute.TheVariants.{Faulty}
use Rattle.area_format.specs.declared.Bytes.{Bytes}
use Rattle.area_format.specs.declared.Fault.TheVariants.{AttributeBounds}
use Rattle.area.proofs.reader.Attributes.{not-empty, not_past}
use Rattle.area.specs.Internal.{met_in, standings}

-- passing what is left of an attribute
passed : (left at : ℕ) (bytes : List ℕ) → attributes_from left at bytes ≡ attributes_from 0 (at + left) (drop left bytes)
unfolding attributes_from
passed zero at bytes = rw add-zero
passed (suc left) at [] = refl
passed (suc left) at (x ∷ rest) =
    let e : suc at + left ≡ at + suc left = omega arith in
    passed left (suc at) rest ∙ rw e

-- passing an attribute of k bytes, from its second byte on
past : (k at x : ℕ) (rest : List ℕ) → 1 ≤ k → attributes_from (k - 1) (suc at) rest ≡ attributes_from 0 (at + k) (drop k (x ∷ rest))
past zero at x rest h = let none : ⊥ = omega arith in elim none [ ]
past (suc k) at x rest h =
    let e₁ : suc k - 1 ≡ k = omega arith in
    let e₂ : suc at + k ≡ at + suc k = omega arith in
    rw (e₁, ← e₂) (passed k (suc at) rest)

-- what is met at the start of the bytes from an offset on, and what is left after it
module _ (at : ℕ) where
  some_met : (bytes : List ℕ) {a : Attribute} {size : Bytes} → ◌≡◌ {A = Option (Attribute × Bytes)} (Some (a, size)) (met_in bytes)
      → (1 ≤ size.0) × (size.0 ≤ length bytes) × (attributes_from 0 at bytes ≡ standing at a ∷ attributes_from 0 (at + size.0) (drop size.0 bytes))
  unfolding met_in in_bounds attributes_from
  some_met [] e = cc
  some_met (x ∷ rest) {a} {size} e = go (in_bounds (x ∷ rest)) refl e
    where
      go : (t : Bool) → in_bounds (x ∷ rest) ≡ t → ◌≡◌ {A = Option (Attribute × Bytes)} (Some (a, size)) (cond t (Some (attribute (x ∷ rest), in_bytes (words_of (x ∷ rest)))) None)
          → (1 ≤ size.0) × (size.0 ≤ length (x ∷ rest))
          × (cond (in_bounds (x ∷ rest)) (standing at (attribute (x ∷ rest)) ∷ attributes_from ((in_bytes (words_of (x ∷ rest))).0 - 1) (suc at) rest) (standing at (Faulty AttributeBounds) ∷ [])
          ≡ standing at a ∷ attributes_from 0 (at + size.0) (drop size.0 (x ∷ rest)))
      go false h e = cc
      go true h e =
          let both : ◌≡◌ {A = Attribute × Bytes} (a, size) (attribute (x ∷ rest), in_bytes (words_of (x ∷ rest))) = ap (λ (o : Option (Attribute × Bytes)). unwrap_or o (a, size)) e in
          let p : a ≡ attribute (x ∷ rest) = ap (λ (b : Attribute × Bytes). b.0) both in
          let q : size ≡ in_bytes (words_of (x ∷ rest)) = ap (λ (b : Attribute × Bytes). b.1) both in
          let n : size.0 ≡ 4 * get_or (x ∷ rest) 1 0 = ap (λ (b : Bytes). b.0) q in
          let l₁ : 1 ≤ get_or (x ∷ rest) 1 0 = not-empty (x ∷ rest) h in
          let l₂ : 4 * get_or (x ∷ rest) 1 0 ≤ suc (length rest) = not_past (x ∷ rest) h in
          (omega arith, omega arith, rw (h, p, n) (ap (λ (l : List Standing). standing at (attribute (x ∷ rest)) ∷ l) (past (4 * get_or (x ∷ rest) 1 0) at x rest (omega arith))))

  none_met : (bytes : List ℕ) → 0 < length bytes → None ≡ met_in bytes → attributes_from 0 at bytes ≡ standing at (Faulty AttributeBounds) ∷ []
  unfolding met_in attributes_from
  none_met [] l e = let none : ⊥ = omega arith in elim none [ ]
  none_met (x ∷ rest) l e = go (in_bounds (x ∷ rest)) refl e
    where
      go : (t : Bool) → in_bounds (x ∷ rest) ≡ t → ◌≡◌ {A = Option (Attribute × Bytes)} None (cond t (Some (attribute (x ∷ rest), in_bytes (words_of (x ∷ rest)))) None)
          → cond (in_bounds (x ∷ rest)) (standing at (attribute (x ∷ rest)) ∷ attributes_from ((in_bytes (words_of (x ∷ rest))).0 - 1) (suc at) rest) (standing at (Faulty AttributeBounds) ∷ [])
          ≡ standing at (Faulty AttributeBounds) ∷ []
      go true h e = cc
      go false h e = rw h

-- at the area's end nothing is left
pub nothing_left : (area : List ℕ) (at : ℕ) → length area ≤ at → standings area at ≡ []
unfolding attributes_from
nothing_left area at h = rw drop_of_length-le

-- the same of the area
module _ (area : List ℕ) (at : ℕ) where
  pub within : at ≤ length area → {a : Attribute} {size : Bytes} → ◌≡◌ {A = Option (Attribute × Bytes)} (Some (a, size)) (met_in (drop at area))
      → (1 ≤ size.0) × (at + size.0 ≤ length area) × (standings area at ≡ standing at a ∷ standings area (at + size.0))
  within inside {a} {size} e =
      let l : length (drop at area) ≡ length area - at = length-drop at area in
      let m = some_met at (drop at area) e in
      let k : size.0 ≤ length (drop at area) = m.1 in
      (m.0, omega arith, m.2 ∙ ap (λ (b : List ℕ). standing at a ∷ attributes_from 0 (at + size.0) b) (drop-drop size.0 at area))

  pub outside : at < length area → None ≡ met_in (drop at area) → standings area at ≡ standing at (Faulty AttributeBounds) ∷ standings area (length area)
  outside inside e =
      let l : length (drop at area) ≡ length area - at = length-drop at area in
      none_met at (drop at area) (omega arith) e ∙ ap (λ (s : List Standing). standing at (Faulty AttributeBounds) ∷ s) (sym (nothing_left area (length area) (omega arith)))

-- what is not met is none
pub nothing_met : (bytes : List ℕ) {r : Option (Attribute × Bytes)} → r ≡ met_in bytes → ((met : Attribute × Bytes) → r ≡ Some met → ⊥)
    → ◌≡◌ {A = Option (Attribute × Bytes)} None (met_in bytes)
nothing_met bytes {r = None} e other = e
nothing_met bytes {r = Some p} e other = elim (other p refl) [ ]
