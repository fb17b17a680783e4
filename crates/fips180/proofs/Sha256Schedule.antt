-- The message schedule of SHA-256: the standard's two cases of W t.
use mathlib.Core.Path.{◌≡◌, ap, ◌∙◌, subst}
use mathlib.Core.List.{List}
use Prim.Native.Nat.{ℕ, ◌+◌, ◌-◌, ◌<◌}
use native.Mathlib.Omega.{arith}
use borrow.Author.Tests.{lt-ltb, le-ltb}
use lib.ListN.{get_or}
use Rattle.fips180.specs.Words.{word}
use Rattle.fips180.specs.Hash.{schedule_by}
use Rattle.fips180.specs.Sha256.{next_w, word_at, W}
use Rattle.fips180.specs.Statements.{ScheduleByCases}
use Rattle.fips180.proofs.Schedule.{is, stable}

pub early : (b : List ℕ) (t : ℕ) → t < 16 → W b t ≡ word b t
unfolding W word_at
early b t h = is (word_at b) t ∙ simp (lt-ltb t 16 h)

pub late : (b : List ℕ) (t : ℕ) → W b (t + 16) ≡ next_w (W b (t + 14)) (W b (t + 9)) (W b (t + 1)) (W b t)
unfolding W word_at
late b t =
    is (word_at b) (t + 16) ∙ simp (le-ltb (t + 16) 16 (omega arith))
    (λ i. next_w (at (t + 16 - 2) (t + 14) (omega arith) (omega arith) i) (at (t + 16 - 7) (t + 9) (omega arith) (omega arith) i) (at (t + 16 - 15) (t + 1) (omega arith) (omega arith) i) (at (t + 16 - 16) t (omega arith) (omega arith) i))
  where
    at : (j k : ℕ) → j ≡ k → k < t + 16 → get_or (schedule_by (word_at b) (t + 16)) j 0 ≡ W b k
    at j k e h = ap (λ (n : ℕ). get_or (schedule_by (word_at b) (t + 16)) n 0) e ∙ stable (word_at b) (t + 16) k h

pub schedule_by_cases : ScheduleByCases
schedule_by_cases b t = (early b t, λ h. let e : t - 16 + 16 ≡ t = omega arith in subst (λ (n : ℕ). W b n ≡ next_w (W b (n - 2)) (W b (n - 7)) (W b (n - 15)) (W b (n - 16))) e (places (t - 16)))
  where
    places : (k : ℕ) → W b (k + 16) ≡ next_w (W b (k + 16 - 2)) (W b (k + 16 - 7)) (W b (k + 16 - 15)) (W b (k + 16 - 16))
    places k =
        let e2 : k + 14 ≡ k + 16 - 2 = omega arith in
        let e7 : k + 9 ≡ k + 16 - 7 = omega arith in
        let e15 : k + 1 ≡ k + 16 - 15 = omega arith in
        let e16 : k ≡ k + 16 - 16 = omega arith in
        late b k ∙ (λ i. next_w (W b (e2 i)) (W b (e7 i)) (W b (e15 i)) (W b (e16 i)))
