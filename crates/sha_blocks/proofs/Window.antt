-- Sixteen words of a schedule (`window` of the crate fips180), place by place.
use Rattle.std.proofs.Common.{◌≡◌, ℕ, ◌+◌, ◌<◌, List, length, get_or, sym, ap, ◌∙◌, zero-add}
use Rattle.fips180.specs.Window.{window}
use Rattle.sha_blocks.specs.Sums.{values}
use Rattle.sha_blocks.proofs.Values.{value_at, by_words}

-- place n has the schedule's word t + n
pub window_at : (f : ℕ → ℕ) (t n : ℕ) → n < 16 → get_or (window f t) n 0 ≡ f (t + n)
unfolding window values
window_at f t n small = value_at (λ (i : ℕ). f (t + i)) 16 0 n small ∙ ap (λ (i : ℕ). f (t + i)) (zero-add n)

-- a list that has those words is the window
pub is_window : (f : ℕ → ℕ) (t : ℕ) (l : List ℕ) → length l ≡ 16 → ((k : ℕ) → k < 16 → get_or l k 0 ≡ f (t + k)) → l ≡ window f t
unfolding window values
is_window f t l len each = by_words (λ (k : ℕ). f (t + k)) 16 l len each

-- the first of them
pub loaded : (f : ℕ → ℕ) (l : List ℕ) → length l ≡ 16 → ((k : ℕ) → k < 16 → get_or l k 0 ≡ f k) → l ≡ window f 0
loaded f l len each = is_window f 0 l len (λ k lt. each k lt ∙ ap f (sym (zero-add k)))
