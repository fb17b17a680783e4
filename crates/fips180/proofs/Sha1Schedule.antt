-- The message schedule of SHA-1: the standard's two cases of W t.
use mathlib.Core.Path.{◌≡◌, ap, ◌∙◌, subst}
use mathlib.Core.List.{List}
use Prim.Native.Nat.{ℕ, ◌+◌, ◌-◌, ◌<◌}
use native.Mathlib.Omega.{arith}
use borrow.Author.Tests.{lt-ltb, le-ltb}
use lib.ListN.{get_or}
use Rattle.fips180.specs.Words.{word}
use Rattle.fips180.specs.Hash.{schedule_by}
use Rattle.fips180.specs.Sha1.{next_w, word_at, W}
use Rattle.fips180.specs.Statements.{Sha1ScheduleByCases}
use Rattle.fips180.proofs.Schedule.{is, stable}

pub early : (b : List ℕ) (t : ℕ) → t < 16 → W b t ≡ word b t
unfolding W word_at
early b t h = is (word_at b) t ∙ simp (lt-ltb t 16 h)

pub late : (b : List ℕ) (t : ℕ) → W b (t + 16) ≡ next_w (W b (t + 13)) (W b (t + 8)) (W b (t + 2)) (W b t)
unfolding W word_at
late b t =
    is (word_at b) (t + 16) ∙ simp (le-ltb (t + 16) 16 (omega arith))
    (λ i. next_w (at (t + 16 - 3) (t + 13) (omega arith) (omega arith) i) (at (t + 16 - 8) (t + 8) (omega arith) (omega arith) i) (at (t + 16 - 14) (t + 2) (omega arith) (omega arith) i) (at (t + 16 - 16) t (omega arith) (omega arith) i))
  where
    at : (j k : ℕ) → j ≡ k → k < t + 16 → get_or (schedule_by (word_at b) (t + 16)) j 0 ≡ W b k
    at j k e h = ap (λ (n : ℕ). get_or (schedule_by (word_at b) (t + 16)) n 0) e ∙ stable (word_at b) (t + 16) k h

pub schedule_by_cases : Sha1ScheduleByCases
schedule_by_cases b t = (early b t, λ h. let e : t - 16 + 16 ≡ t = omega arith in subst (λ (n : ℕ). W b n ≡ next_w (W b (n - 3)) (W b (n - 8)) (W b (n - 14)) (W b (n - 16))) e (places (t - 16)))
  where
    places : (k : ℕ) → W b (k + 16) ≡ next_w (W b (k + 16 - 3)) (W b (k + 16 - 8)) (W b (k + 16 - 14)) (W b (k + 16 - 16))
    places k =
        let e3 : k + 13 ≡ k + 16 - 3 = omega arith in
        let e8 : k + 8 ≡ k + 16 - 8 = omega arith in
        let e14 : k + 2 ≡ k + 16 - 14 = omega arith in
        let e16 : k ≡ k + 16 - 16 = omega arith in
        late b k ∙ (λ i. next_w (W b (e3 i)) (W b (e8 i)) (W b (e14 i)) (W b (e16 i)))
