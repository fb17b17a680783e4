-- How often a byte stands in a text, by the text's first byte, and whether one of two does.
use Prim.Native.Nat.{ℕ, suc}
use mathlib.Core.Path.{◌≡◌, refl, sym, ap, ◌∙◌}
use mathlib.Core.Bool.{Bool, true, false, cond, ◌||◌}
use mathlib.Core.List.{List, [], ◌∷◌}
use borrow.Author.Tests.{eqb-true, eqb-false, eq-eqb, le-leb, ne_eqb}
use lib.Dec.{eqb, leb}
use native.Mathlib.Omega.{arith}
use Rattle.std.proofs.lemmas.List.Sums.{sum_by-cons}
use Rattle.std.specs.List.{list_any}
use Rattle.slices.proofs.Truth.{or_true}
use Rattle.labels.specs.Syntax.{count}

pub count_hit : (b x : ℕ) (s : List ℕ) → x ≡ b → count b (x ∷ s) ≡ suc (count b s)
count_hit b x s e = sum_by-cons (λ y. cond (eqb y b) 1 0) x s ∙ rw (eq-eqb x b e) (omega arith)

pub count_miss : (b x : ℕ) (s : List ℕ) → (x ≡ b → ⊥) → count b (x ∷ s) ≡ count b s
count_miss b x s e = sum_by-cons (λ y. cond (eqb y b) 1 0) x s ∙ rw (ne_eqb x b e) (omega arith)

pub count_none : (b : ℕ) → count b [] ≡ 0
count_none b = refl

-- a byte is the first of a text, or it is not
pub by_first : {A : Type 0} (b x : ℕ) → (x ≡ b → A) → ((x ≡ b → ⊥) → A) → A
by_first {A} b x f g = go (eqb x b) refl
  where
    go : (t : Bool) → eqb x b ≡ t → A
    go true e = f (eqb-true x b e)
    go false e = g (eqb-false x b e)

some : (n : ℕ) → leb 1 (suc n) ≡ true
some n = le-leb 1 (suc n) (omega arith)

-- a byte in front of a text, by what holds of the rest: where the one of two bytes stands in it or the other
module _ (a b x : ℕ) (s : List ℕ) (later : Bool) (rest : later ≡ (leb 1 (count a s) || leb 1 (count b s))) where
  abbrev stands : ℕ → Bool
  stands c = leb 1 (count c (x ∷ s))

  is_first : x ≡ a → ((eqb x a || eqb x b) || later) ≡ (stands a || stands b)
  is_first e = ap (λ (t : Bool). (t || eqb x b) || later) (eq-eqb x a e) ∙ sym (ap (λ (n : ℕ). leb 1 n || stands b) (count_hit a x s e) ∙ ap (λ (t : Bool). t || stands b) (some (count a s)))

  is_second : (x ≡ a → ⊥) → x ≡ b → ((eqb x a || eqb x b) || later) ≡ (stands a || stands b)
  is_second n e =
      ap (λ (t : Bool). (t || eqb x b) || later) (ne_eqb x a n) ∙ (ap (λ (t : Bool). t || later) (eq-eqb x b e)
      ∙ sym (or_true (stands a) (stands b) (ap (leb 1) (count_hit b x s e) ∙ some (count b s))))

  is_neither : (x ≡ a → ⊥) → (x ≡ b → ⊥) → ((eqb x a || eqb x b) || later) ≡ (stands a || stands b)
  is_neither n m =
      ap (λ (t : Bool). (t || eqb x b) || later) (ne_eqb x a n) ∙ (ap (λ (t : Bool). t || later) (ne_eqb x b m) ∙ (rest
      ∙ sym (ap (λ (k : ℕ). leb 1 k || stands b) (count_miss a x s n) ∙ ap (λ (k : ℕ). leb 1 (count a s) || leb 1 k) (count_miss b x s m))))

  in_front : ((eqb x a || eqb x b) || later) ≡ (stands a || stands b)
  in_front = by_first a x is_first (λ n. by_first b x (is_second n) (is_neither n))

-- one of two bytes stands in a text where the one does or the other
pub either_stands : (a b : ℕ) (s : List ℕ) → list_any (λ x. eqb x a || eqb x b) s ≡ (leb 1 (count a s) || leb 1 (count b s))
either_stands a b [] = refl
either_stands a b (x ∷ s) = in_front a b x s _ (either_stands a b s)
