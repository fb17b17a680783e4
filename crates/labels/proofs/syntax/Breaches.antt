-- The test of a label's syntax finds exactly the breaches of request 7: how often a byte stands in a text, and where.
use Prim.Native.Nat.{ℕ, zero, suc, ◌-◌, ◌≤◌}
use mathlib.Core.Path.{◌≡◌, refl}
use mathlib.Core.Bool.{Bool, true, false, ◌&&◌, ◌||◌}
use mathlib.Core.List.{List, [], ◌∷◌}
use borrow.Author.Tests.{leb-true, le-leb, eqb-true, eq-eqb}
use native.Mathlib.Nat.{not-suc-le-zero}
use native.Mathlib.Omega.{arith}
use lib.Dec.{leb}
use lib.ListN.{length, get_or}
use Rattle.slices.proofs.Truth.{and_left, and_right, or_true}
use Rattle.labels.specs.Syntax.{count, has_space, has_comma, is_long_without_at, has_second_at, has_at_first, has_at_last, breaches}
use Rattle.labels.specs.Statements.{Has, Twice, Breach, space, comma, long_without_at, second_at, at_first, at_last, BreachesExactly}
use Rattle.labels.proofs.syntax.Counts.{by_first, count_hit, count_miss, count_none}

count_grows : (b x : ℕ) (s : List ℕ) → count b s ≤ count b (x ∷ s)
count_grows b x s = by_first b x (λ e. omega (arith, count_hit b x s e)) (λ e. omega (arith, count_miss b x s e))

-- a byte that stands in a text is counted, and one that is counted stands in it
counted : (b : ℕ) (s : List ℕ) → Has b s → 1 ≤ count b s
counted b [] (i, lt, e) = absurd (not-suc-le-zero lt)
counted b (x ∷ s) (zero, lt, e) = omega (arith, count_hit b x s e)
counted b (x ∷ s) (suc i, lt, e) = omega (arith, counted b s (i, omega (arith, lt), e), count_grows b x s)

has : (b : ℕ) (s : List ℕ) → 1 ≤ count b s → Has b s
has b [] h = absurd (omega (arith, h, count_none b))
has b (x ∷ s) h =
    by_first b x (λ e. (0, omega arith, e))
    (λ e. let m = count_miss b x s e in let r = has b s (omega (arith, h, m)) in (suc r.0, omega (arith, r.1), r.2))

counted_twice : (b : ℕ) (s : List ℕ) → Twice b s → 2 ≤ count b s
counted_twice b [] (i, j, a, lt, e, f) = absurd (not-suc-le-zero lt)
counted_twice b (x ∷ s) (i, zero, a, lt, e, f) = absurd (not-suc-le-zero a)
counted_twice b (x ∷ s) (zero, suc j, a, lt, e, f) = omega (arith, count_hit b x s e, counted b s (j, omega (arith, lt), f))
counted_twice b (x ∷ s) (suc i, suc j, a, lt, e, f) = omega (arith, counted_twice b s (i, j, omega (arith, a), omega (arith, lt), e, f), count_grows b x s)

twice : (b : ℕ) (s : List ℕ) → 2 ≤ count b s → Twice b s
twice b [] h = absurd (omega (arith, h, count_none b))
twice b (x ∷ s) h =
    by_first b x
    (λ e. let m = count_hit b x s e in let r = has b s (omega (arith, h, m)) in (0, suc r.0, omega arith, omega (arith, r.1), e, r.2))
    (λ e.
    let m = count_miss b x s e in
    let r = twice b s (omega (arith, h, m)) in
    (suc r.0, suc r.1, omega (arith, r.2), omega (arith, r.3), r.4, r.5))

-- each clause of the test
or_left : (p q : Bool) → p ≡ true → (p || q) ≡ true
or_left p q e = rw e

split_or : {A : Type 0} (p q : Bool) → (p || q) ≡ true → (p ≡ true → A) → (q ≡ true → A) → A
split_or true q e f g = f refl
split_or false q e f g = g e

both : (p q : Bool) → p ≡ true → q ≡ true → (p && q) ≡ true
both p q e f = rw (e, f)

found : (label : List ℕ) → Breach label → breaches label ≡ true
unfolding breaches
found label (space h) = or_left _ _ (or_left _ _ (or_left _ _ (or_left _ _ (or_left _ _ (le-leb 1 (count 32 label) (counted 32 label h))))))
found label (comma h) = or_left _ _ (or_left _ _ (or_left _ _ (or_left _ _ (or_true (has_space label) _ (le-leb 1 (count 44 label) (counted 44 label h))))))
found label (long_without_at l n) =
    let none : count 64 label ≡ 0 = zero_of (count 64 label) (λ h. n (has 64 label h)) in
    or_left _ _ (or_left _ _ (or_left _ _ (or_true (has_space label || has_comma label) _ (both _ _ (le-leb 65 (length label) l) (eq-eqb (count 64 label) 0 none)))))
  where
    zero_of : (c : ℕ) → (1 ≤ c → ⊥) → c ≡ 0
    zero_of zero f = refl
    zero_of (suc c) f = absurd (f (omega arith))
found label (second_at h) = or_left _ _ (or_left _ _ (or_true (has_space label || has_comma label || is_long_without_at label) _ (le-leb 2 (count 64 label) (counted_twice 64 label h))))
found label (at_first e) = or_left _ _ (or_true (has_space label || has_comma label || is_long_without_at label || has_second_at label) _ (eq-eqb (get_or label 0 0) 64 e))
found label (at_last e) =
    or_true (has_space label || has_comma label || is_long_without_at label || has_second_at label || has_at_first label) _ (eq-eqb (get_or label (length label - 1) 0) 64 e)

a_breach : (label : List ℕ) → breaches label ≡ true → Breach label
unfolding breaches
a_breach label e =
    split_or (has_space label || has_comma label || is_long_without_at label || has_second_at label || has_at_first label) (has_at_last label) e
    (λ e₁.
    split_or (has_space label || has_comma label || is_long_without_at label || has_second_at label) (has_at_first label) e₁
    (λ e₂.
    split_or (has_space label || has_comma label || is_long_without_at label) (has_second_at label) e₂
    (λ e₃.
    split_or (has_space label || has_comma label) (is_long_without_at label) e₃
    (λ e₄.
    split_or (has_space label) (has_comma label) e₄ (λ h. space (has 32 label (leb-true 1 (count 32 label) h)))
    (λ h. comma (has 44 label (leb-true 1 (count 44 label) h))))
    (λ h. long label h))
    (λ h. second_at (twice 64 label (leb-true 2 (count 64 label) h))))
    (λ h. at_first (eqb-true (get_or label 0 0) 64 h)))
    (λ h. at_last (eqb-true (get_or label (length label - 1) 0) 64 h))
  where
    long : (label : List ℕ) → is_long_without_at label ≡ true → Breach label
    long label h =
        let l = leb-true 65 (length label) (and_left _ _ h) in
        let none = eqb-true (count 64 label) 0 (and_right (leb 65 (length label)) _ h) in
        long_without_at l (λ at. omega (arith, none, counted 64 label at))

pub breaches_exactly : BreachesExactly
breaches_exactly label = (a_breach label, found label)
