-- Runs of SHA-1's rounds: which of them have which function and constant, and the words that they find in the window.
use Rattle.std.proofs.Common.{◌≡◌, ℕ, zero, suc, ◌+◌, ◌*◌, ◌/◌, ◌%◌, ◌<◌, ◌≤◌, List, get_or, refl, sym, ap, ◌∙◌, add-zero, add_assoc, add-suc, arith}
use Rattle.fips180.specs.Words.{Ch, Maj}
use Rattle.fips180.specs.Sha1.{Parity, W, step, round, rounds}
use Rattle.fips180.specs.Window.{window}
use Rattle.fips180.specs.Statements.{Has}
use Rattle.fips180.proofs.Sha1Rounds.{round_by_cases}
use Rattle.sha_blocks.proofs.Window.{window_at}
use Rattle.sha1_block.specs.Internal.{step_by, runs, Four}
use Rattle.sha1_block.specs.Statements.{WordInPlace, RoundByWindow}

-- n rounds from round t on, of one function and constant, with the words in the window from place j on
module _ (f : ℕ → ℕ → ℕ → ℕ) (k : ℕ) (h b : List ℕ) (t p j : ℕ) (place : p + j ≡ t) where
  one : (i : ℕ) → Has f k i → (s : List ℕ) → step_by f k (W b i) s ≡ round i (W b i) s
  unfolding step_by round
  one i has s = λ m. step (sym (has.0 (get_or s 1 0) (get_or s 2 0) (get_or s 3 0)) m) (sym has.1 m) (W b i) s

  run : (n : ℕ) → j + n ≤ 16 → ((i : ℕ) → i < n → Has f k (t + i)) → runs f k (window (W b) p) j (rounds h b t) n ≡ rounds h b (t + n)
  unfolding runs rounds
  run zero le has = ap (rounds h b) (sym (add-zero t))
  run (suc n) le has =
      let e : p + (j + n) ≡ t + n = sym (add_assoc p j n) ∙ ap (λ (i : ℕ). i + n) place in
      let w : get_or (window (W b) p) (j + n) 0 ≡ W b (t + n) = window_at (W b) p (j + n) (omega (arith, le)) ∙ ap (W b) e in
      (λ i. step_by f k (w i) (run n (omega (arith, le)) (λ i l. has i (omega (arith, l))) i))
      ∙ one (t + n) (has n (omega arith)) (rounds h b (t + n))
      ∙ ap (rounds h b) (sym (add-suc t n))

-- four rounds of one kind, from place j of the window on
pub by_kind : (h b : List ℕ) (t j : ℕ) (f : ℕ → ℕ → ℕ → ℕ) (k : ℕ) {w s r : List ℕ} → j + 4 ≤ 16 → Four f k (t + j) → w ≡ window (W b) t
    → s ≡ rounds h b (t + j) → r ≡ runs f k w j s 4 → r ≡ rounds h b (t + (j + 4))
by_kind h b t j f k le four ew es e = e ∙ (λ i. runs f k (ew i) j (es i) 4) ∙ run f k h b (t + j) t j refl 4 le four ∙ ap (rounds h b) (add_assoc t j 4)

-- the kinds of the rounds
pub first : (t : ℕ) → t + 3 < 20 → Four Ch 0x5a827999 t
first t below = λ i l. (round_by_cases (t + i)).0 (omega (arith, l, below))

pub second : (t : ℕ) → 20 ≤ t → t + 3 < 40 → Four Parity 0x6ed9eba1 t
second t from below = λ i l. (round_by_cases (t + i)).1 (omega (arith, l, from)) (omega (arith, l, below))

pub third : (t : ℕ) → 40 ≤ t → t + 3 < 60 → Four Maj 0x8f1bbcdc t
third t from below = λ i l. (round_by_cases (t + i)).2 (omega (arith, l, from)) (omega (arith, l, below))

pub last : (t : ℕ) → 60 ≤ t → Four Parity 0xca62c1d6 t
last t from = λ i l. (round_by_cases (t + i)).3 (omega (arith, l, from))

pub no_round : (h b : List ℕ) {s : List ℕ} → s ≡ h → s ≡ rounds h b 0
unfolding rounds
no_round h b e = e

-- the window's words, by the number of the round
pub word_in_place : WordInPlace
word_in_place b t =
    let few : t % 16 < 16 = omega arith in
    let e : t / 16 * 16 + t % 16 ≡ t = omega arith in
    window_at (W b) (t / 16 * 16) (t % 16) few ∙ ap (W b) e

pub round_by_window : RoundByWindow
unfolding rounds
round_by_window h b t = ap (λ (w : ℕ). round t w (rounds h b t)) (sym (word_in_place b t))
