-- Where the first bad byte of a text stands, and that there is none exactly when every byte passes.
use Prim.Native.Nat.{ℕ, suc, ◌+◌, ◌<◌}
use mathlib.Core.Path.{◌≡◌, refl, ◌∙◌}
use mathlib.Core.Bool.{Bool, true, false, cond, not, ◌&&◌}
use mathlib.Core.List.{List, [], ◌∷◌}
use mathlib.Core.Logic.{◌↔◌}
use native.Mathlib.Omega.{arith}
use borrow.Author.Tests.{ltb-true, ltb-false, lt-ltb, le-ltb}
use lib.Dec.{ltb}
use lib.ListN.{length, get_or}
use Rattle.std.specs.Prelude.{Option, None, Some, is_none}
use Rattle.std.proofs.lemmas.List.Quantifiers.{position-Some}
use Rattle.std.specs.List.{prefix_len}
use Rattle.std.proofs.lemmas.List.Sums.{prefix_len_is}
use Rattle.labels.specs.Bytes.{every, first_bad}

-- the element at i is the first that fails the test
abbrev pub First : (ℕ → Bool) → List ℕ → ℕ → Type 0
First p s i = (i < length s) × (p (get_or s i 0) ≡ false) × ((j : ℕ) → j < i → p (get_or s j 0) ≡ true)

fails : (b : Bool) → not b ≡ true → b ≡ false
fails true e = cc
fails false e = refl

passes : (b : Bool) → not b ≡ false → b ≡ true
passes true e = refl
passes false e = cc

pub first-place : (p : ℕ → Bool) (s : List ℕ) (i : ℕ) → (first_bad p s ≡ Some i) ↔ First p s i
first-place p s i = (
  λ e. let m = position-Some (λ b. not (p b)) s i 0 e in (m.0, fails _ m.1, λ j lt. passes _ (m.2 j lt)),
  λ f.
      let n : prefix_len (λ b. not (not (p b))) s ≡ i = prefix_len_is (λ b. not (not (p b))) s i 0 (omega (arith, f.0)) (λ k lt. rw (f.2 k lt) refl) (λ _. rw f.1 refl) in
      rw (n, lt-ltb i (length s) f.0),
)

-- one more in front of the first bad byte, and of the text, does not change whether there is one
none_next : (a b : ℕ) → is_none (cond {A = Option ℕ} (ltb (1 + a) (suc b)) (Some (1 + a)) None) ≡ is_none (cond {A = Option ℕ} (ltb a b) (Some a) None)
none_next a b = go (ltb a b) refl
  where
    go : (t : Bool) → ltb a b ≡ t → is_none (cond {A = Option ℕ} (ltb (1 + a) (suc b)) (Some (1 + a)) None) ≡ is_none (cond {A = Option ℕ} t (Some a) None)
    go true e = rw (lt-ltb (1 + a) (suc b) (omega (arith, ltb-true a b e)))
    go false e = rw (le-ltb (1 + a) (suc b) (omega (arith, ltb-false a b e)))

-- no byte is bad exactly when every byte passes
pub none_bad : (p : ℕ → Bool) (s : List ℕ) → is_none (first_bad p s) ≡ every p s
unfolding every
none_bad p [] = refl
none_bad p (x ∷ s) = go (p x) refl (none_bad p s)
  where
    go : (t : Bool) → p x ≡ t → is_none (first_bad p s) ≡ every p s → is_none (first_bad p (x ∷ s)) ≡ (t && every p s)
    go true e n = rw e (none_next (prefix_len (λ b. not (not (p b))) s) (length s) ∙ n)
    go false e n = rw (e, lt-ltb 0 (suc (length s)) (omega arith))
