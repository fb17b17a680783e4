-- A round by its place in the window, and the words that the rounds find.
use Rattle.std.proofs.Common.{◌≡◌, ℕ, suc, ◌+◌, ◌*◌, ◌/◌, ◌%◌, ◌<◌, List, get_or, sym, ap, ◌∙◌, arith}
use Rattle.sha_blocks.proofs.Window.{window_at}
use Rattle.fips180.specs.Sha256.{K, W, round, rounds}
use Rattle.fips180.specs.Window.{window}
use Rattle.sha256_block.specs.Statements.{WordInPlace, RoundByWindow}

-- round j of the sixteen rounds g
pub one_more : (h b w s : List ℕ) (g j : ℕ) {r : List ℕ} → j < 16 → r ≡ round (get_or K (16 * g + j) 0) (get_or w j 0) s
    → w ≡ window (W b) (16 * g) → s ≡ rounds h b (16 * g + j) → r ≡ rounds h b (16 * g + (j + 1))
unfolding rounds
one_more h b w s g j small e ew es =
    let next : suc (16 * g + j) ≡ 16 * g + (j + 1) = omega arith in
    e
    ∙ (λ i. round (get_or K (16 * g + j) 0) ((ap (λ (l : List ℕ). get_or l j 0) ew ∙ window_at (W b) (16 * g) j small) i) (es i))
    ∙ ap (rounds h b) next

-- the window's words, by the number of the round
pub word_in_place : WordInPlace
word_in_place b t =
    let few : t % 16 < 16 = omega arith in
    let e : t / 16 * 16 + t % 16 ≡ t = omega arith in
    window_at (W b) (t / 16 * 16) (t % 16) few ∙ ap (W b) e

pub round_by_window : RoundByWindow
unfolding rounds
round_by_window h b t = ap (λ (w : ℕ). round (get_or K t 0) w (rounds h b t)) (sym (word_in_place b t))
