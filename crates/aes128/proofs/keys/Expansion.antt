-- The key expansion, step by step. Each lemma is over plain lists and numbers, and its premises are what the callees ensure.
use mathlib.Core.Path.{◌≡◌, sym, ap, ap₂, ◌∙◌}
use mathlib.Core.List.{List, [], ◌∷◌}
use Prim.Native.Nat.{ℕ, zero, suc, ◌+◌, ◌-◌, ◌<◌}
use native.Mathlib.Nat.{not-suc-le-zero}
use native.Mathlib.Numerals.{sub-one}
use native.Mathlib.Omega.{arith}
use lib.Bits.{bit_xor}
use lib.ListN.{length, get_or, set}
use lib.Seq.{ext_get_or}
use Rattle.aes_sbox.specs.Field.{xtime}
use Rattle.fips197.specs.State.{State, inv_mix_columns, add_column}
use Rattle.fips197.specs.Cipher.{kept_first}
use Rattle.fips197.specs.KeyExpansion.{rcon, rot_word, sub_word, key_core, next_key, round_key, expand_key}
use Rattle.fips197.proofs.Equivalent.{kept_step}
use Rattle.fips197.proofs.Four.{four}
use Rattle.fips197.proofs.Rounds.{expand_key_at}

pub core_by : (w t : List ℕ) (c : ℕ) → t ≡ sub_word (rot_word w)
    → bit_xor (get_or t 0 0) c ∷ get_or t 1 0 ∷ get_or t 2 0 ∷ get_or t 3 0 ∷ [] ≡ key_core w c
unfolding key_core
core_by w t c e = ap (λ (u : List ℕ). bit_xor (get_or u 0 0) c ∷ get_or u 1 0 ∷ get_or u 2 0 ∷ get_or u 3 0 ∷ []) e

-- ---- the round keys

-- the words of the next round key
pub next_words : (k : State) (r : ℕ) (core w0 w1 w2 w3 : List ℕ) → core ≡ key_core (get_or k 3 []) r
    → w0 ≡ add_column (get_or k 0 []) core → w1 ≡ add_column (get_or k 1 []) w0 → w2 ≡ add_column (get_or k 2 []) w1 → w3 ≡ add_column (get_or k 3 []) w2
    → ◌≡◌ {A = State} (w0 ∷ w1 ∷ w2 ∷ w3 ∷ []) (next_key k r)
unfolding next_key
next_words k r core w0 w1 w2 w3 e p0 p1 p2 p3 =
    let q0 = p0 ∙ ap (add_column (get_or k 0 [])) e in
    let q1 = p1 ∙ ap (add_column (get_or k 1 [])) q0 in
    let q2 = p2 ∙ ap (add_column (get_or k 2 [])) q1 in
    four q0 q1 q2 (p3 ∙ ap (add_column (get_or k 3 [])) q2)

-- the key expansion's loop: before it, a turn of it, and its end
pub at_zero : (P : ℕ → Type 0) → P 0 → (n : ℕ) → n < 1 → P n
at_zero P p zero h = p
at_zero P p (suc n) h = absurd (omega arith)

module _ (k : State) where
  pub next_step : (i c : ℕ) (x u : State) → 0 < i → x ≡ round_key k (i - 1) → c ≡ rcon (i - 1) → u ≡ next_key x c → u ≡ round_key k i
  unfolding round_key
  next_step zero c x u h p q e = absurd (omega arith)
  next_step (suc i) c x u h p q e = e ∙ ap₂ next_key (rw sub-one at p) (rw sub-one at q)

pub constant_step : (i c d : ℕ) → 0 < i → c ≡ rcon (i - 1) → d ≡ xtime c → d ≡ rcon (i + 1 - 1)
unfolding rcon
constant_step zero c d h p e = absurd (omega arith)
constant_step (suc i) c d h p e = let q : suc i ≡ suc i + 1 - 1 = omega arith in e ∙ ap xtime (rw sub-one at p) ∙ ap rcon q

pub expanded : (k : State) (ks : List State) → length ks ≡ 11 → ((n : ℕ) → n < 11 → get_or ks n [] ≡ round_key k n) → ks ≡ expand_key k
unfolding expand_key
expanded k ks len each = ext_get_or [] ks (expand_key k) len (λ n h. let l : n < 11 = omega (arith, h, len) in each n l ∙ sym (expand_key_at k n l))

-- ---- a turn of the loop that makes the round keys of the equivalent inverse cipher

pub kept_turn : (ks₀ ks : List State) (i : ℕ) (k : State) → 0 < i → ks ≡ kept_first (i - 1) ks₀ → k ≡ inv_mix_columns (get_or ks i [])
    → set ks i k ≡ kept_first (i + 1 - 1) ks₀
kept_turn ks₀ ks zero k h e ek = absurd (not-suc-le-zero h)
kept_turn ks₀ ks (suc i) k h e ek =
    let q : ks ≡ kept_first i ks₀ = rw sub-one at e in
    ap₂ (λ (l : List State) (x : State). set l (suc i) x) q (ek ∙ ap (λ (l : List State). inv_mix_columns (get_or l (suc i) [])) q)
    ∙ kept_step i ks₀
    ∙ ap (λ (n : ℕ). kept_first n ks₀) (omega arith)
