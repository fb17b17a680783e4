-- A round as the code takes it, a turn of each cipher's loop, and its end. Each lemma is over plain lists, and its premises are what the callees ensure.
use mathlib.Core.Path.{◌≡◌, ap, ap₂, ◌∙◌}
use mathlib.Core.List.{List, []}
use Prim.Native.Nat.{ℕ, zero, suc, ◌+◌, ◌-◌, ◌<◌}
use native.Mathlib.Nat.{not-suc-le-zero}
use native.Mathlib.Numerals.{sub-one}
use native.Mathlib.Omega.{arith}
use lib.ListN.{get_or}
use Rattle.fips197.specs.State.{State, sub_bytes, inv_sub_bytes, shift_rows, inv_shift_rows, mix_columns, inv_mix_columns, add_round_key}
use Rattle.fips197.specs.Cipher.{round, rounds, last_round, cipher, eq_inv_round, eq_inv_rounds, eq_inv_last_round, eq_inv_cipher}
use Rattle.aes128.specs.Internal.{state_of, laid_out}

-- ---- the first round key

pub begun_by : (k s a : State) (n : List ℕ) → a ≡ add_round_key s k → state_of n ≡ laid_out a → state_of n ≡ add_round_key s k
unfolding add_round_key
begun_by k s a n e h = h ∙ ap laid_out e

-- ---- a round: SubBytes of the shifted rows is ShiftRows of the looked-up bytes

module _ (k : State) (t : List ℕ) (s a : State) (e : s ≡ state_of t) where
  pub round_by : (m r : State) (n : List ℕ) → a ≡ shift_rows s → m ≡ mix_columns (sub_bytes a) → r ≡ add_round_key m k → state_of n ≡ laid_out r
      → state_of n ≡ round k (state_of t)
  unfolding round sub_bytes add_round_key
  round_by m r n ea em er en =
      en ∙ ap laid_out (er ∙ ap (λ (x : State). add_round_key x k) (em ∙ ap (λ (x : State). mix_columns (sub_bytes x)) (ea ∙ ap shift_rows e)))

  pub last-round_by : (m r : State) → a ≡ shift_rows s → m ≡ sub_bytes a → r ≡ add_round_key m k → r ≡ last_round k (state_of t)
  unfolding last_round sub_bytes
  last-round_by m r ea em er = er ∙ ap (λ (x : State). add_round_key x k) (em ∙ ap sub_bytes (ea ∙ ap shift_rows e))

  pub inv_round_by : (m r : State) (n : List ℕ) → a ≡ inv_shift_rows s → m ≡ inv_mix_columns (inv_sub_bytes a) → r ≡ add_round_key m k
      → state_of n ≡ laid_out r → state_of n ≡ eq_inv_round k (state_of t)
  unfolding eq_inv_round inv_sub_bytes add_round_key
  inv_round_by m r n ea em er en =
      en
      ∙ ap laid_out (er ∙ ap (λ (x : State). add_round_key x k) (em ∙ ap (λ (x : State). inv_mix_columns (inv_sub_bytes x)) (ea ∙ ap inv_shift_rows e)))

  pub inv_last-round_by : (m r : State) → a ≡ inv_shift_rows s → m ≡ inv_sub_bytes a → r ≡ add_round_key m k → r ≡ eq_inv_last_round k (state_of t)
  unfolding eq_inv_last_round inv_sub_bytes
  inv_last-round_by m r ea em er = er ∙ ap (λ (x : State). add_round_key x k) (em ∙ ap inv_sub_bytes (ea ∙ ap inv_shift_rows e))

-- a turn of the cipher's loop, and its end
module _ (ks : List State) where
  pub round-step : (i : ℕ) (s t u : State) → 0 < i → t ≡ rounds ks (i - 1) s → u ≡ round (get_or ks i []) t → u ≡ rounds ks (i + 1 - 1) s
  unfolding rounds
  round-step zero s t u h p q = absurd (omega arith)
  round-step (suc i) s t u h p q =
      let n : suc i ≡ suc i + 1 - 1 = omega arith in
      q ∙ ap (round (get_or ks (suc i) [])) (rw sub-one at p) ∙ ap (λ (m : ℕ). rounds ks m s) n

  pub cipher_end : (i : ℕ) (s t u r : State) → t ≡ add_round_key s (get_or ks 0 []) → u ≡ rounds ks (i - 1) t → i ≡ 10 → r ≡ last_round (get_or ks 10 []) u
      → r ≡ cipher ks s
  unfolding cipher
  cipher_end i s t u r p q e h = let n : i - 1 ≡ 9 = omega arith in h ∙ ap (last_round (get_or ks 10 [])) (q ∙ ap₂ (rounds ks) n p)

-- ---- a turn of the loop of the equivalent inverse cipher, and its end

module _ (ks : List State) where
  eq-step : (i : ℕ) (t u : State) → 0 < i → u ≡ eq_inv_round (get_or ks i []) t → eq_inv_rounds ks (i - 1) u ≡ eq_inv_rounds ks i t
  unfolding eq_inv_rounds
  eq-step zero t u h e = absurd (not-suc-le-zero h)
  eq-step (suc i) t u h e = rw sub-one (ap (eq_inv_rounds ks i) e)

  pub eq_below : (i : ℕ) (t u : State) → 1 < i → u ≡ eq_inv_round (get_or ks (i - 1) []) t → eq_inv_rounds ks (i - 1 - 1) u ≡ eq_inv_rounds ks (i - 1) t
  eq_below i t u h e = eq-step (i - 1) t u (omega arith) e

  pub eq_end : (i : ℕ) (s t u r : State) → t ≡ add_round_key s (get_or ks 10 []) → eq_inv_rounds ks (i - 1) u ≡ eq_inv_rounds ks 9 t → i ≡ 1
      → r ≡ eq_inv_last_round (get_or ks 0 []) u → r ≡ eq_inv_cipher ks s
  unfolding eq_inv_cipher eq_inv_rounds
  eq_end i s t u r p w e h =
      let n : 0 ≡ i - 1 = omega arith in
      h ∙ ap (eq_inv_last_round (get_or ks 0 [])) (ap (λ (m : ℕ). eq_inv_rounds ks m u) n ∙ w ∙ ap (eq_inv_rounds ks 9) p)
