-- The window of a schedule while it is refilled, one word after another.
use Rattle.std.proofs.Common.{◌≡◌, ℕ, ◌+◌, ◌%◌, ◌<◌, List, length, get_or, set, inl, inr, sym, subst, ap, ◌∙◌, add_assoc, arith}
use Rattle.std.proofs.lemmas.List.{get_or-set_same, get_or-set_other, length-set}
use Rattle.std.proofs.lemmas.Bool.{cases_lt}
use Rattle.fips180.specs.Window.{window}
use Rattle.sha_blocks.specs.Ring.{RingAt}
use Rattle.sha_blocks.proofs.Window.{window_at, is_window}

-- at first, and when all are replaced
pub none : (f : ℕ → ℕ) (t : ℕ) {w : List ℕ} → length w ≡ 16 → w ≡ window f t → RingAt f t 0 w
none f t {w} len e = (
  len,
  λ k lt.
      let at : (0 + k) % 16 ≡ k = omega (arith, lt) in
      let from : t + k ≡ t + (0 + k) = omega arith in
      (λ i. get_or (e i) (at i) 0) ∙ window_at f t k lt ∙ ap f from,
)

pub all : (f : ℕ → ℕ) (t : ℕ) {w : List ℕ} → RingAt f t 16 w → w ≡ window f (t + 16)
all f t {w} r =
    is_window f (t + 16) w r.0 (λ k lt.
    let at : k ≡ (16 + k) % 16 = omega (arith, lt) in
    let to : t + (16 + k) ≡ t + 16 + k = omega arith in
    ap (λ (j : ℕ). get_or w j 0) at ∙ r.1 k lt ∙ ap f to)

pub moved : (f : ℕ → ℕ) (t : ℕ) (w : List ℕ) {m n : ℕ} → m ≡ n → RingAt f t m w → RingAt f t n w
moved f t w e = subst (λ (k : ℕ). RingAt f t k w) e

-- one word more, in the place of the oldest
pub more : (f : ℕ → ℕ) (t n x : ℕ) (w : List ℕ) → n < 16 → RingAt f t n w → x ≡ f (t + (n + 16)) → RingAt f t (n + 1) (set w n x)
more f t n x w small r e = (
  length-set w n x ∙ r.0,
  λ k lt. elim (cases_lt k 15) [
    | inl a ↦
        let other : (n + 1 + k) % 16 ≡ (n + (k + 1)) % 16 = omega arith in
        let to : t + (n + (k + 1)) ≡ t + (n + 1 + k) = omega arith in
        get_or-set_other w n ((n + 1 + k) % 16) x 0 (omega (arith, a, small))
        ∙ ap (λ (j : ℕ). get_or w j 0) other ∙ r.1 (k + 1) (omega (arith, a)) ∙ ap f to
    | inr b ↦
        let same : (n + 1 + k) % 16 ≡ n = omega (arith, b, lt, small) in
        let to : t + (n + 16) ≡ t + (n + 1 + k) = omega (arith, b, lt) in
        ap (λ (j : ℕ). get_or (set w n x) j 0) same ∙ get_or-set_same w n x 0 (omega (arith, small, r.0)) ∙ e ∙ ap f to
  ],
)

module _ (f : ℕ → ℕ) (next : ℕ → ℕ → ℕ → ℕ → ℕ) (p q r : ℕ) (late : (t : ℕ) → f (t + 16) ≡ next (f (t + p)) (f (t + q)) (f (t + r)) (f t)) where
  -- the word at the place that is j after the oldest
  read : (t n j : ℕ) (w : List ℕ) → RingAt f t n w → j < 16 → get_or w ((n + j) % 16) 0 ≡ f (t + n + j)
  read t n j w ring small = ring.1 j small ∙ ap f (sym (add_assoc t n j))

  -- the next word, from those at the places of the rule
  pub next_put : (t n : ℕ) (w : List ℕ) {x i j k : ℕ} → (p < 16) × (q < 16) × (r < 16) → n < 16 → RingAt f t n w → i ≡ p → j ≡ q → k ≡ r
      → x ≡ next (get_or w ((n + i) % 16) 0) (get_or w ((n + j) % 16) 0) (get_or w ((n + k) % 16) 0) (get_or w n 0) → RingAt f t (n + 1) (set w n x)
  next_put t n w {x} near small ring ei ej ek e =
      let oldest : n ≡ (n + 0) % 16 = omega (arith, small) in
      let from : t + (n + 0) ≡ t + n = omega arith in
      let to : t + n + 16 ≡ t + (n + 16) = omega arith in
      more f t n x w small ring
      (e
      ∙ (λ m. next (get_or w ((n + ei m) % 16) 0) (get_or w ((n + ej m) % 16) 0) (get_or w ((n + ek m) % 16) 0) (get_or w (oldest m) 0))
      ∙ (λ m. next (read t n p w ring near.0 m) (read t n q w ring near.1 m) (read t n r w ring near.2 m) ((ring.1 0 (omega arith) ∙ ap f from) m))
      ∙ sym (late (t + n)) ∙ ap f to)
