-- Laws of names that are compared from their start: what the shorter decides.
use Prim.Native.Nat.{ℕ, min, ◌≤◌, ◌<◌}
use mathlib.Core.Path.{◌≡◌, refl, sym, ap, ap₂, ◌∙◌}
use mathlib.Core.Bool.{Bool, true, false, ◌&&◌, and-true}
use mathlib.Core.List.{List, [], ◌∷◌}
use native.Mathlib.Omega.{arith}
use borrow.Author.Tests.{leb-true, leb-false, eqb-true, eqb-false, eq-eqb, ne_eqb}
use lib.Dec.{leb, eqb}
use lib.ListN.{length, take, drop}
use lib.Seq.{drop-length, take_all}
use Rattle.slices.specs.Same.{same_list}
use Rattle.area_format.specs.Names.{same_fields}
use Rattle.area_format.proofs.Fields.{front_agrees, by_front, fields_symmetric}
use Rattle.area.specs.Internal.{ends}

eqb_flip : (x y : ℕ) → eqb x y ≡ eqb y x
eqb_flip x y = go (eqb x y) refl
  where
    go : (p : Bool) → eqb x y ≡ p → eqb x y ≡ eqb y x
    go true e = e ∙ sym (eq-eqb y x (sym (eqb-true x y e)))
    go false e = e ∙ sym (ne_eqb y x (λ h. eqb-false x y e (sym h)))

same_flip : (s t : List ℕ) → same_list s t ≡ same_list t s
unfolding same_list
same_flip [] [] = refl
same_flip [] (y ∷ t) = refl
same_flip (x ∷ s) [] = refl
same_flip (x ∷ s) (y ∷ t) = ap₂ (λ (p q : Bool). p && q) (eqb_flip x y) (same_flip s t)

-- of the longer only as many bytes are compared as the shorter has
shorter : (a b : List ℕ) → length a ≤ length b → same_fields a b ≡ (ends (drop (length a) b) && same_list a (take (length a) b))
unfolding same_list front_agrees
shorter a b h = by_front a b ∙ go a b h
  where
    swap : (p q r : Bool) → (p && (q && r)) ≡ (q && (p && r))
    swap true true r = refl
    swap true false r = refl
    swap false true r = refl
    swap false false r = refl

    go : (a b : List ℕ) → length a ≤ length b → front_agrees a b ≡ (ends (drop (length a) b) && same_list a (take (length a) b))
    go [] [] h = refl
    go [] (y ∷ t) h = sym (and-true (eqb y 58))
    go (x ∷ s) [] h = let none : ⊥ = omega arith in elim none [ ]
    go (x ∷ s) (y ∷ t) h =
        let l : length s ≤ length t = omega arith in
        ap (λ (r : Bool). eqb x y && r) (go s t l) ∙ swap (eqb x y) (ends (drop (length s) t)) (same_list s (take (length s) t))

-- the whole comparison: a field ends in both after the bytes of the shorter, and these are the same
pub agreed : (a b : List ℕ) (n : ℕ) → n ≡ min (length a) (length b) → same_fields a b ≡ ((ends (drop n a) && ends (drop n b)) && same_list (take n a) (take n b))
agreed a b n e = go (leb (length a) (length b)) refl
  where
    go : (t : Bool) → leb (length a) (length b) ≡ t → same_fields a b ≡ ((ends (drop n a) && ends (drop n b)) && same_list (take n a) (take n b))
    go true h =
        let l : length a ≤ length b = leb-true _ _ h in
        let m : n ≡ length a = omega arith in
        shorter a b l ∙ rw (m, drop-length a, take_all (length a) a (omega arith))
    go false h =
        let l : length b < length a = leb-false _ _ h in
        let m : n ≡ length b = omega arith in
        fields_symmetric a b ∙ shorter b a (omega arith)
        ∙ ap₂ (λ (p q : Bool). p && q) (sym (and-true (ends (drop (length b) a)))) (same_flip b (take (length b) a))
        ∙ rw (m, drop-length b, take_all (length b) b (omega arith))
