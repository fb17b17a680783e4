-- What the operations on the word of taken slots come to in the table: the lowest zero bit is the lowest free slot, and the count of the bits that are
-- set is that of the live slots.
use mathlib.Core.Path.{◌≡◌, refl, sym, ap, ap₂, ◌∙◌}
use mathlib.Core.Bool.{Bool, true, false, ◌&&◌}
use mathlib.Core.List.{List, [], ◌∷◌, map}
use Prim.Native.Nat.{ℕ, zero, suc, ◌+◌, ◌-◌, ◌*◌, ◌/◌, ◌%◌, ◌^◌, ◌≤◌, ◌<◌}
use native.Mathlib.Nat.{lt_of_lt_of_le, pow-suc, mod-lt, mod-eq_of_lt, zero-lt-suc}
use native.Mathlib.Omega.{arith}
use borrow.Author.Tests.{lt-ltb}
use lib.Count.{ones, ones_step, count_trailing_zeros, under}
use lib.Dec.{eqb}
use mir.Val.{bool_byte}
use lib.ListN.{length, get_or, length-map}
use lib.Pow.{pow_mono, pow-lt, pow-add, shr-shr, field, mod-mod-pow}
use Rattle.slot_rules.specs.Table.{Slot, free, slot_of, slots_from, lowest_free, live_slot_count, bit, count_gone, word_gone}
use Rattle.slot_rules.proofs.Words.{bit-lt, word_lt}
use Rattle.slots.specs.Internal.{has_bit}

-- a list has the length of what is mapped from it
pub length_mapped : (X Y : Type 0) (f : X → Y) (l : List X) (n : ℕ) → length (map f l) ≡ n → length l ≡ n
length_mapped X Y f l n e = sym (length-map l f) ∙ e

-- a truth value as a number
pub as_bit : (b : Bool) → bool_byte b ≡ bit b
as_bit true = refl
as_bit false = refl

-- ---- halves

half_lt : (k w : ℕ) → w < 2 ^ suc k → w / 2 < 2 ^ k
half_lt k w h = let e = pow-suc 2 k in omega arith

module _ (k w : ℕ) (h : w < 2 ^ suc k) where
  not_odd : ((2 ^ suc k - 1) - w) % 2 ≡ 1 - w % 2
  not_odd = let e = pow-suc 2 k in omega arith

  not_half : ((2 ^ suc k - 1) - w) / 2 ≡ (2 ^ k - 1) - w / 2
  not_half = let e = pow-suc 2 k in omega arith

-- ---- a bit alone, and in halves of 32

-- one shifted within a half
pub mask_low : (i : ℕ) → i < 32 → 1 * 2 ^ i % 2 ^ 32 ≡ 2 ^ i
mask_low i h = let e : 1 * 2 ^ i ≡ 2 ^ i = omega arith in ap (λ (n : ℕ). n % 2 ^ 32) e ∙ mod-eq_of_lt (pow-lt h)

pub mask_high : (i : ℕ) → 32 ≤ i → i < 64 → 1 * 2 ^ (i - 32) % 2 ^ 32 * 2 ^ 32 ≡ 2 ^ i
mask_high i l h =
    let k : i - 32 < 32 = omega arith in
    let e : (i - 32) + 32 ≡ i = omega arith in
    ap (λ (n : ℕ). n * 2 ^ 32) (mask_low (i - 32) k) ∙ sym (pow-add 2 (i - 32) 32) ∙ ap (λ (n : ℕ). 2 ^ n) e

low_bit : (w i : ℕ) → i < 32 → w % 2 ^ 32 / 2 ^ i % 2 ≡ w / 2 ^ i % 2
low_bit w i h =
    let e : (32 - i) + i ≡ 32 = omega arith in
    let f : (31 - i) + 1 ≡ 32 - i = omega arith in
    ap (λ (n : ℕ). w % 2 ^ n / 2 ^ i % 2) (sym e)
    ∙ ap (λ (n : ℕ). n % 2) (field w (32 - i) i)
    ∙ ap (λ (n : ℕ). w / 2 ^ i % 2 ^ n % 2) (sym f)
    ∙ mod-mod-pow (w / 2 ^ i) (31 - i) 1

high_bit : (w i : ℕ) → 32 ≤ i → w / 2 ^ 32 / 2 ^ (i - 32) % 2 ≡ w / 2 ^ i % 2
high_bit w i h =
    let e : 32 + (i - 32) ≡ i = omega arith in
    ap (λ (n : ℕ). n % 2) (shr-shr w 32 (i - 32) ∙ ap (λ (n : ℕ). w / 2 ^ n) e)

tested : (w i : ℕ) → i < 64 → eqb (w / 2 ^ i % 2) 1 ≡ has_bit w i
tested w i h = sym (ap (λ (b : Bool). b && eqb (w / 2 ^ i % 2) 1) (lt-ltb i 64 h))

pub low_tested : (w i : ℕ) → i < 32 → eqb (w % 2 ^ 32 / 2 ^ i % 2) 1 ≡ has_bit w i
low_tested w i h = let l : i < 64 = omega arith in ap (λ (d : ℕ). eqb d 1) (low_bit w i h) ∙ tested w i l

pub high_tested : (w i : ℕ) → 32 ≤ i → i < 64 → eqb (w / 2 ^ 32 / 2 ^ (i - 32) % 2) 1 ≡ has_bit w i
high_tested w i l h = ap (λ (d : ℕ). eqb d 1) (high_bit w i l) ∙ tested w i h

-- ---- a table of a word

lowest_step : {X : Type 0} (x : X) (d t : ℕ) (s : List (Slot X)) → d < 2 → t ≡ lowest_free s → under (1 - d) t ≡ lowest_free (slot_of d x ∷ s)
unfolding lowest_free
lowest_step x zero t s h e = refl
lowest_step x (suc zero) t s h e = ap suc e
lowest_step x (suc (suc d)) t s h e = absurd (omega arith)

-- the zeros below the lowest zero bit are the slots below the lowest free one
pub lowest_law : {X : Type 0} (held : List X) (w : ℕ) → w < 2 ^ length held
    → count_trailing_zeros (length held) ((2 ^ length held - 1) - w) ≡ lowest_free (slots_from w held)
unfolding count_trailing_zeros slots_from lowest_free
lowest_law [] w h = refl
lowest_law (x ∷ held) w h =
    let k = length held in
    ap₂ under (not_odd k w h) (ap (count_trailing_zeros k) (not_half k w h))
    ∙ lowest_step x (w % 2) _ (slots_from (w / 2) held) (mod-lt w (zero-lt-suc 1)) (lowest_law held (w / 2) (half_lt k w h))

live_step : {X : Type 0} (x : X) (d t : ℕ) (s : List (Slot X)) → d < 2 → t ≡ live_slot_count s → d + t ≡ live_slot_count (slot_of d x ∷ s)
unfolding live_slot_count
live_step x zero t s h e = omega arith
live_step x (suc zero) t s h e = omega arith
live_step x (suc (suc d)) t s h e = absurd (omega arith)

-- the set bits are counted as the live slots are
pub live_law : {X : Type 0} (held : List X) (w : ℕ) → w < 2 ^ length held → ones w ≡ live_slot_count (slots_from w held)
unfolding ones slots_from live_slot_count
live_law [] w h = let e : w ≡ 0 = omega arith in ap ones e
live_law (x ∷ held) w h =
    ones_step w ∙ live_step x (w % 2) _ (slots_from (w / 2) held) (mod-lt w (zero-lt-suc 1)) (live_law held (w / 2) (half_lt (length held) w h))

pub count_law : (goes : ℕ → Bool) (at n : ℕ) → ones (word_gone goes at n) ≡ count_gone goes at n
unfolding word_gone count_gone ones
count_law goes at zero = refl
count_law goes at (suc n) =
    let g = word_gone goes (suc at) n in
    let d = bit-lt (goes at) in
    let odd : (g * 2 + bit (goes at)) % 2 ≡ bit (goes at) = omega arith in
    let half : (g * 2 + bit (goes at)) / 2 ≡ g = omega arith in
    ones_step (g * 2 + bit (goes at)) ∙ ap₂ (λ (x y : ℕ). x + ones y) odd half ∙ ap (λ (x : ℕ). bit (goes at) + x) (count_law goes (suc at) n)

-- ---- a bit read

pub at_law : {X : Type 0} (held : List X) (w i : ℕ) (d : X) → i < length held → get_or (slots_from w held) i free ≡ slot_of (w / 2 ^ i % 2) (get_or held i d)
unfolding slots_from
at_law [] w i d h = absurd (omega arith)
at_law (y ∷ held) w zero d h =
    let e : w / 1 ≡ w = omega arith in ap (λ (v : ℕ). slot_of (v % 2) y) (sym e)
at_law (y ∷ held) w (suc i) d h =
    let e : 1 + i ≡ suc i = omega arith in
    at_law held (w / 2) i d (omega arith) ∙ ap (λ (v : ℕ). slot_of (v % 2) (get_or held i d)) (shr-shr w 1 i ∙ ap (λ (j : ℕ). w / 2 ^ j) e)

-- ---- the word of those that go, from the highest slot down

pub word-step : (goes : ℕ → Bool) (s : ℕ) → 0 < s → s ≤ 64 → word_gone goes (s - 1) (64 - (s - 1)) ≡ word_gone goes s (64 - s) * 2 + bit (goes (s - 1))
unfolding word_gone
word-step goes zero p l = absurd (omega arith)
word-step goes (suc k) p l =
    let e : suc k - 1 ≡ k = omega arith in
    let f : 64 - k ≡ suc (64 - suc k) = omega arith in
    ap₂ (word_gone goes) e (ap (λ (j : ℕ). 64 - j) e ∙ f) ∙ ap (λ (j : ℕ). word_gone goes (suc k) (64 - suc k) * 2 + bit (goes j)) (sym e)

pub word_fits : (goes : ℕ → Bool) (s : ℕ) → 0 < s → word_gone goes s (64 - s) < 2 ^ 63
word_fits goes s p = let l : 64 - s ≤ 63 = omega arith in lt_of_lt_of_le (word_lt goes s (64 - s)) (pow_mono l)

-- ---- numbers that agree on what goes

pub word_same : (f g : ℕ → Bool) → ((s : ℕ) → f s ≡ g s) → (at n : ℕ) → word_gone f at n ≡ word_gone g at n
unfolding word_gone
word_same f g e at zero = refl
word_same f g e at (suc n) = ap₂ (λ (b : Bool) (u : ℕ). u * 2 + bit b) (e at) (word_same f g e (suc at) n)
