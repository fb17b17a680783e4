-- A list by its words.
use Rattle.std.proofs.Common.{◌≡◌, ℕ, zero, suc, ◌+◌, ◌<◌, List, length, get_or, refl, sym, ap, ◌∙◌, zero-add, add-zero, add-suc, suc-add, arith}
use Rattle.std.proofs.lemmas.Grind.{same_number_lists}
use Rattle.sha_blocks.specs.Sums.{values}

length_values : (f : ℕ → ℕ) (i n : ℕ) → length (values f i n) ≡ n
unfolding values
length_values f i zero = refl
length_values f i (suc n) = ap suc (length_values f (suc i) n)

-- the value at place n
pub value_at : (f : ℕ → ℕ) (m i n : ℕ) → n < m → get_or (values f i m) n 0 ≡ f (i + n)
unfolding values
value_at f zero i n h = absurd (omega arith)
value_at f (suc m) i zero h = ap f (sym (add-zero i))
value_at f (suc m) i (suc n) h = value_at f m (suc i) n (omega (arith, h)) ∙ ap f (suc-add i n ∙ sym (add-suc i n))

-- a list of n words that are the values of f
pub by_words : (f : ℕ → ℕ) (n : ℕ) (l : List ℕ) → length l ≡ n → ((k : ℕ) → k < n → get_or l k 0 ≡ f k) → l ≡ values f 0 n
by_words f n l len each =
    same_number_lists l (values f 0 n) (len ∙ sym (length_values f 0 n))
    (λ k lt. each k (omega (arith, lt, len)) ∙ sym (value_at f n 0 k (omega (arith, lt, len)) ∙ ap f (zero-add k)))
