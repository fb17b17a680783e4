-- Two names agree by their fields exactly if they are equal, or one is the other with a colon and more after it. `front_agrees` compares byte by byte.
use Prim.Native.Nat.{ℕ}
use mathlib.Core.Path.{◌≡◌, refl, sym, ap, ap₂, ◌∙◌}
use mathlib.Core.Bool.{Bool, true, false, cond, ◌&&◌, and_assoc}
use mathlib.Core.Logic.{◌⊎◌, inl, inr, ⊎_elim}
use mathlib.Core.List.{List, [], ◌∷◌, ◌++◌}
use native.Mathlib.Omega.{arith}
use borrow.Author.Tests.{eqb-true, eqb-false, eq-eqb, ne_eqb}
use lib.Dec.{eqb}
use Rattle.slices.specs.Same.{same_list}
use Rattle.slices.proofs.Truth.{and_left, and_right}
use Rattle.area_format.specs.Names.{onto, fields, pairs_agree, same_fields}
use Rattle.area_format.specs.Statements.{PrefixRule, FieldsSymmetric}

-- whether the bytes of the shorter stand in the longer, and a colon after them
unfoldable pub front_agrees : List ℕ → List ℕ → Bool
front_agrees [] [] = true
front_agrees [] (y ∷ t) = eqb y 58
front_agrees (x ∷ s) [] = eqb x 58
front_agrees (x ∷ s) (y ∷ t) = eqb x y && front_agrees s t

-- a name has a first field
first : (s : List ℕ) → (f : List ℕ) × (fs : List (List ℕ)) × (fields s ≡ f ∷ fs)
unfolding fields
first [] = ([], [], refl)
first (x ∷ s) = go (eqb x 58)
  where
    into : (l : List (List ℕ)) → (f : List ℕ) × (fs : List (List ℕ)) × (onto x l ≡ f ∷ fs)
    into [] = (x ∷ [], [], refl)
    into (f ∷ fs) = (x ∷ f, fs, refl)

    go : (t : Bool) → (f : List ℕ) × (fs : List (List ℕ)) × (cond t ([] ∷ fields s) (onto x (fields s)) ≡ f ∷ fs)
    go true = ([], fields s, refl)
    go false = into (fields s)

-- a byte in front of the first field of one, or of both
empty-onto : (y : ℕ) (l : List (List ℕ)) → pairs_agree ([] ∷ []) (onto y l) ≡ false
unfolding pairs_agree same_list
empty-onto y [] = refl
empty-onto y (f ∷ fs) = refl

onto-empty : (x : ℕ) (l : List (List ℕ)) → pairs_agree (onto x l) ([] ∷ []) ≡ false
unfolding pairs_agree same_list
onto-empty x [] = refl
onto-empty x (f ∷ fs) = refl

colon-onto : (y : ℕ) (k l : List (List ℕ)) → pairs_agree ([] ∷ k) (onto y l) ≡ false
unfolding pairs_agree same_list
colon-onto y k [] = refl
colon-onto y k (f ∷ fs) = refl

onto-colon : (x : ℕ) (k l : List (List ℕ)) → pairs_agree (onto x l) ([] ∷ k) ≡ false
unfolding pairs_agree same_list
onto-colon x k [] = refl
onto-colon x k (f ∷ fs) = refl

onto-onto : (x y : ℕ) (s t : List ℕ) → pairs_agree (onto x (fields s)) (onto y (fields t)) ≡ (eqb x y && pairs_agree (fields s) (fields t))
unfolding pairs_agree same_list
onto-onto x y s t =
    let p = first s in
    let q = first t in
    rw (p.2, q.2) (and_assoc (eqb x y) (same_list p.0 q.0) (pairs_agree p.1 q.1))

pub by_front : (a b : List ℕ) → same_fields a b ≡ front_agrees a b
unfolding same_fields fields pairs_agree same_list front_agrees
by_front [] [] = refl
by_front [] (y ∷ t) = go (eqb y 58)
  where
    go : (p : Bool) → pairs_agree ([] ∷ []) (cond p ([] ∷ fields t) (onto y (fields t))) ≡ p
    go true = refl
    go false = empty-onto y (fields t)
by_front (x ∷ s) [] = go (eqb x 58)
  where
    go : (p : Bool) → pairs_agree (cond p ([] ∷ fields s) (onto x (fields s))) ([] ∷ []) ≡ p
    go true = last (fields s)
      where
        last : (l : List (List ℕ)) → pairs_agree l [] ≡ true
        last [] = refl
        last (f ∷ fs) = refl
    go false = onto-empty x (fields s)
by_front (x ∷ s) (y ∷ t) = go (by_front s t) (eqb x 58) refl (eqb y 58) refl
  where
    go : same_fields s t ≡ front_agrees s t → (p : Bool) → eqb x 58 ≡ p → (q : Bool) → eqb y 58 ≡ q
        → pairs_agree (cond p ([] ∷ fields s) (onto x (fields s))) (cond q ([] ∷ fields t) (onto y (fields t))) ≡ (eqb x y && front_agrees s t)
    go ih true e true f =
        let i : x ≡ 58 = eqb-true x 58 e in
        let j : y ≡ 58 = eqb-true y 58 f in
        let k : eqb x y ≡ true = eq-eqb x y (omega arith) in
        rw k ih
    go ih true e false f =
        let i : x ≡ 58 = eqb-true x 58 e in
        let j : y ≡ 58 → ⊥ = eqb-false y 58 f in
        let k : eqb x y ≡ false = ne_eqb x y (λ h. j (sym h ∙ i)) in
        rw k (colon-onto y (fields s) (fields t))
    go ih false e true f =
        let i : x ≡ 58 → ⊥ = eqb-false x 58 e in
        let j : y ≡ 58 = eqb-true y 58 f in
        let k : eqb x y ≡ false = ne_eqb x y (λ h. i (h ∙ j)) in
        rw k (onto-colon x (fields t) (fields s))
    go ih false e false f = onto-onto x y s t ∙ ap (λ (r : Bool). eqb x y && r) ih

-- the rule, of the comparison byte by byte
front_rule : (a b : List ℕ) → front_agrees a b ≡ true → (a ≡ b) ⊎ (((t : List ℕ) × (b ≡ a ++ (58 ∷ t))) ⊎ ((t : List ℕ) × (a ≡ b ++ (58 ∷ t))))
unfolding front_agrees
front_rule [] [] e = inl refl
front_rule [] (y ∷ t) e = inr (inl (t, ap (λ (n : ℕ). n ∷ t) (eqb-true y 58 e)))
front_rule (x ∷ s) [] e = inr (inr (s, ap (λ (n : ℕ). n ∷ s) (eqb-true x 58 e)))
front_rule (x ∷ s) (y ∷ t) e =
    let h : x ≡ y = eqb-true x y (and_left _ _ e) in
    ⊎_elim (λ f. inl (ap₂ (λ (n : ℕ) (l : List ℕ). n ∷ l) h f))
    (⊎_elim (λ f. inr (inl (f.0, ap₂ (λ (n : ℕ) (l : List ℕ). n ∷ l) (sym h) f.1)))
    (λ f. inr (inr (f.0, ap₂ (λ (n : ℕ) (l : List ℕ). n ∷ l) h f.1))))
    (front_rule s t (and_right (eqb x y) _ e))

front_self : (a : List ℕ) → front_agrees a a ≡ true
unfolding front_agrees
front_self [] = refl
front_self (x ∷ s) = rw (eq-eqb x x refl) (front_self s)

front_longer : (a t : List ℕ) → front_agrees a (a ++ (58 ∷ t)) ≡ true
unfolding front_agrees
front_longer [] t = refl
front_longer (x ∷ s) t = rw (eq-eqb x x refl) (front_longer s t)

front_symmetric : (a b : List ℕ) → front_agrees a b ≡ front_agrees b a
unfolding front_agrees
front_symmetric [] [] = refl
front_symmetric [] (y ∷ t) = refl
front_symmetric (x ∷ s) [] = refl
front_symmetric (x ∷ s) (y ∷ t) = ap₂ (λ (p q : Bool). p && q) (same_way (eqb x y) refl) (front_symmetric s t)
  where
    same_way : (p : Bool) → eqb x y ≡ p → eqb x y ≡ eqb y x
    same_way true e = e ∙ sym (eq-eqb y x (sym (eqb-true x y e)))
    same_way false e = e ∙ sym (ne_eqb y x (λ h. eqb-false x y e (sym h)))

pub fields_symmetric : FieldsSymmetric
fields_symmetric a b = by_front a b ∙ front_symmetric a b ∙ sym (by_front b a)

pub prefix_rule : PrefixRule
prefix_rule a b = (λ e. front_rule a b (sym (by_front a b) ∙ e), back)
  where
    back : (a ≡ b) ⊎ (((t : List ℕ) × (b ≡ a ++ (58 ∷ t))) ⊎ ((t : List ℕ) × (a ≡ b ++ (58 ∷ t)))) → same_fields a b ≡ true
    back (inl e) = by_front a b ∙ rw e (front_self b)
    back (inr (inl f)) = by_front a b ∙ rw f.1 (front_longer a f.0)
    back (inr (inr f)) = by_front a b ∙ front_symmetric a b ∙ rw f.1 (front_longer b f.0)
