-- Laws of the first round, by the position that the library's search gives, and of a renewed list, by the library's comparison.
use Rattle.std.proofs.Common.{◌≡◌, refl, sym, ap, ◌∙◌, ℕ, suc, ◌+◌, ◌-◌, ◌<◌, ◌≤◌, Bool, true, false, cond, ◌&&◌, Some, None, List, [], ◌∷◌, length, take, drop, eqb, get_or, position, arith}
use borrow.Author.Tests.{eq-eqb, ne_eqb}
use native.Mathlib.Numerals.{add-one}
use lib.ListN.{drop_of_length-le}
use lib.Seq.{drop-cons}
use lib.Dec.{ltb}
use Rattle.std.specs.List.{position_or_len}
use Rattle.std.proofs.lemmas.List.Recursion.{is_position_or_len}
use Rattle.slices.specs.Same.{same_list}
use Rattle.slices.proofs.Lists.{rest_drop}
use Rattle.refusal.specs.Checks.{bare, pass, unless, ◌and_then◌}
use Rattle.offer_rules.specs.Rfc5448.{stands, first_supported, renewed_list, check10, check11}
use Rattle.offer_rules.specs.Answers.{FirstAnswer, first_round_at, first_round_to, first_round}
use Rattle.offer_rules.proofs.Rounds.{list_passed}

module _ (offers supported : List ℕ) (listed : (check10 offers and_then check11 offers) ≡ pass) where
  -- the position that the search gives is the definition's
  abbrev test : ℕ → Bool
  test offer = stands offer supported

  same_position : position_or_len test offers ≡ first_supported offers supported
  unfolding first_supported
  same_position = sym (is_position_or_len (λ l. first_supported l supported) test refl
      (λ x xs. let e : suc (first_supported xs supported) ≡ 1 + first_supported xs supported = omega arith in ap (cond (test x) 0) e) offers)

  pub none_supported : position test offers ≡ None → FirstAnswer.refused (bare 12) ≡ first_round offers supported
  unfolding unless
  none_supported e = go (ltb (first_supported offers supported) (length offers)) (rw same_position at e) ∙ list_passed offers supported listed
    where
      go : (t : Bool) → cond t (Some (first_supported offers supported)) None ≡ None
          → FirstAnswer.refused (bare 12) ≡ first_round_to (unless t (bare 12)) offers (first_supported offers supported)
      go true e = cc
      go false e = refl

  pub supported_at : {i : ℕ} → position test offers ≡ Some i → first_round_at offers i ≡ first_round offers supported
  unfolding unless
  supported_at {i} e = go (ltb (first_supported offers supported) (length offers)) (rw same_position at e) ∙ list_passed offers supported listed
    where
      go : (t : Bool) → cond t (Some (first_supported offers supported)) None ≡ Some i
          → first_round_at offers i ≡ first_round_to (unless t (bare 12)) offers (first_supported offers supported)
      go true e = let k : i ≡ first_supported offers supported = cc in ap (first_round_at offers) k
      go false e = cc

-- two lists of one length, of which the first i values were compared: they are the same where these were and where what is left is
module _ (s t : List ℕ) (i : ℕ) (so_far : Bool) (inv : same_list s t ≡ (so_far && same_list (drop i s) (drop i t))) where
  pub values_next : i < length s → i < length t → same_list s t ≡ ((so_far && eqb (get_or s i 0) (get_or t i 0)) && same_list (drop (i + 1) s) (drop (i + 1) t))
  unfolding same_list
  values_next h k = inv ∙ rw (add-one, drop-cons s i 0, drop-cons t i 0) (turned so_far _ _)
    where
      turned : (a b c : Bool) → (a && (b && c)) ≡ ((a && b) && c)
      turned true b c = refl
      turned false b c = refl

  pub values_done : length s ≤ i → length t ≤ i → so_far ≡ same_list s t
  unfolding same_list
  values_done h k = sym (inv ∙ rw (drop_of_length-le s h, drop_of_length-le t k) (all so_far))
    where
      all : (c : Bool) → (c && true) ≡ c
      all true = refl
      all false = refl

pub other_length : (s t : List ℕ) → (length s ≡ length t → ⊥) → false ≡ same_list s t
unfolding same_list
other_length [] [] ne = let none : ⊥ = ne refl in elim none [ ]
other_length [] (y ∷ t) ne = refl
other_length (x ∷ s) [] ne = refl
other_length (x ∷ s) (y ∷ t) ne = neither (eqb x y) (other_length s t (λ e. ne (ap suc e)))
  where
    neither : (b : Bool) → false ≡ same_list s t → false ≡ (b && same_list s t)
    neither true e = e
    neither false e = refl

-- a renewed list is the choice followed by the original where its first is the choice and the others are the original
module _ (original : List ℕ) (choice : ℕ) where
  pub nothing_renewed : (renewed : List ℕ) → length renewed < 1 → false ≡ same_list renewed (renewed_list original choice)
  unfolding same_list
  nothing_renewed [] e = refl
  nothing_renewed (x ∷ renewed) e = let none : ⊥ = omega arith in elim none [ ]

  pub other_choice : (renewed : List ℕ) → 1 ≤ length renewed → (get_or renewed 0 0 ≡ choice → ⊥) → eqb (get_or renewed 0 0) choice ≡ same_list renewed (renewed_list original choice)
  unfolding same_list
  other_choice [] h ne = let none : ⊥ = omega arith in elim none [ ]
  other_choice (x ∷ renewed) h ne = rw (ne_eqb x choice ne)

  pub same_choice : (renewed : List ℕ) → 1 ≤ length renewed → get_or renewed 0 0 ≡ choice
      → same_list (take (length renewed - 1) (drop 1 renewed)) original ≡ same_list renewed (renewed_list original choice)
  unfolding same_list
  same_choice [] h e = let none : ⊥ = omega arith in elim none [ ]
  same_choice (x ∷ renewed) h e = rw (rest_drop 1 (x ∷ renewed), eq-eqb x choice e) refl
