-- Four rounds, one after another.
use Rattle.std.proofs.Common.{◌≡◌, ℕ, ◌+◌, List, get_or, sym, ap, ◌∙◌, add-zero}
use Rattle.sha1_block.specs.Internal.{step_by, runs}

module _ (f : ℕ → ℕ → ℕ → ℕ) (k : ℕ) (w : List ℕ) where
  pub four_rounds : (j : ℕ) (s : List ℕ) {p q r t : List ℕ} → p ≡ step_by f k (get_or w j 0) s → q ≡ step_by f k (get_or w (j + 1) 0) p
      → r ≡ step_by f k (get_or w (j + 2) 0) q → t ≡ step_by f k (get_or w (j + 3) 0) r → t ≡ runs f k w j s 4
  unfolding runs
  four_rounds j s ep eq er et =
      et ∙ ap (step_by f k (get_or w (j + 3) 0))
      (er ∙ ap (step_by f k (get_or w (j + 2) 0)) (eq ∙ ap (step_by f k (get_or w (j + 1) 0)) (ep ∙ ap (λ (i : ℕ). step_by f k (get_or w i 0) s) (sym (add-zero j)))))
