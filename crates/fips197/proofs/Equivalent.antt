-- The equivalent inverse cipher of FIPS 197, section 5.3.5, is the inverse cipher, under round keys of which InvMixColumns is taken: for
-- InvMixColumns of a sum is the sum of InvMixColumns.
use mathlib.Core.Path.{◌≡◌, refl, sym, ap, ◌∙◌}
use mathlib.Core.List.{List, [], ◌∷◌}
use Prim.Native.Nat.{ℕ, zero, suc, ◌≤◌, ◌<◌}
use native.Mathlib.Nat.{le_of_suc-le-suc, not-suc-le-zero, zero-lt-suc}
use native.Mathlib.Omega.{arith}
use lib.ListN.{length, get_or, set}
use Rattle.fips197.specs.State.{State, inv_sub_bytes, inv_shift_rows, inv_mix_column, inv_mix_columns, add_column, add_round_key}
use Rattle.fips197.specs.Cipher.{inv_round, inv_rounds, inv_last_round, inv_cipher, eq_inv_round, eq_inv_rounds, eq_inv_last_round, eq_inv_cipher, mixed_keys, kept_first, inverted_keys}
use Rattle.fips197.specs.Statements.{EqKeys, KeysInverted, EquivalentInverse}
use Rattle.fips197.proofs.Four.{four}
use Rattle.fips197.proofs.Mix.{inv_mix_add}

column_add : (w k : List ℕ) → inv_mix_column (add_column w k) ≡ add_column (inv_mix_column w) (inv_mix_column k)
unfolding inv_mix_column
column_add w k =
    let a = get_or w 0 0 in
    let b = get_or w 1 0 in
    let c = get_or w 2 0 in
    let d = get_or w 3 0 in
    let e = get_or k 0 0 in
    let f = get_or k 1 0 in
    let g = get_or k 2 0 in
    let h = get_or k 3 0 in
    four (inv_mix_add a b c d e f g h) (inv_mix_add b c d a f g h e) (inv_mix_add c d a b g h e f) (inv_mix_add d a b c h e f g)

state_add : (s k : State) → inv_mix_columns (add_round_key s k) ≡ add_round_key (inv_mix_columns s) (inv_mix_columns k)
unfolding inv_mix_columns add_round_key
state_add s k =
    four
    (column_add (get_or s 0 []) (get_or k 0 []))
    (column_add (get_or s 1 []) (get_or k 1 []))
    (column_add (get_or s 2 []) (get_or k 2 []))
    (column_add (get_or s 3 []) (get_or k 3 []))

same_round : (k s : State) → eq_inv_round (inv_mix_columns k) s ≡ inv_round k s
unfolding eq_inv_round inv_round inv_sub_bytes
same_round k s = sym (state_add (inv_sub_bytes (inv_shift_rows s)) k)

module _ (ks ds : List State) (keys : EqKeys ks ds) where
  same-rounds : (n : ℕ) → n < 10 → (s : State) → eq_inv_rounds ds n s ≡ inv_rounds ks n s
  unfolding eq_inv_rounds inv_rounds
  same-rounds zero h s = refl
  same-rounds (suc n) h s =
      ap (eq_inv_rounds ds n) (ap (λ (k : State). eq_inv_round k s) (keys.middle (suc n) (zero-lt-suc n) h) ∙ same_round (get_or ks (suc n) []) s)
      ∙ same-rounds n (omega arith) (inv_round (get_or ks (suc n) []) s)

  same-last : (s : State) → eq_inv_last_round (get_or ds 0 []) s ≡ inv_last_round (get_or ks 0 []) s
  unfolding eq_inv_last_round inv_last_round inv_sub_bytes
  same-last s = ap (add_round_key (inv_sub_bytes (inv_shift_rows s))) keys.first

  equivalent : (s : State) → eq_inv_cipher ds s ≡ inv_cipher ks s
  unfolding eq_inv_cipher inv_cipher
  equivalent s =
      ap (λ (k : State). eq_inv_last_round (get_or ds 0 []) (eq_inv_rounds ds 9 (add_round_key s k))) keys.last
      ∙ ap (eq_inv_last_round (get_or ds 0 [])) (same-rounds 9 (omega arith) (add_round_key s (get_or ks 10 [])))
      ∙ same-last (inv_rounds ks 9 (add_round_key s (get_or ks 10 [])))

-- ---- the round keys of the equivalent inverse cipher, entry by entry

mixed_below : (n : ℕ) (ks : List State) (i : ℕ) → i < n → i < length ks → get_or (mixed_keys n ks) i [] ≡ inv_mix_columns (get_or ks i [])
unfolding mixed_keys
mixed_below zero ks i h l = absurd (not-suc-le-zero h)
mixed_below (suc n) [] i h l = absurd (not-suc-le-zero l)
mixed_below (suc n) (k ∷ ks) zero h l = refl
mixed_below (suc n) (k ∷ ks) (suc i) h l = mixed_below n ks i (le_of_suc-le-suc h) (le_of_suc-le-suc l)

mixed_after : (n : ℕ) (ks : List State) (i : ℕ) → n ≤ i → get_or (mixed_keys n ks) i [] ≡ get_or ks i []
unfolding mixed_keys
mixed_after zero ks i h = refl
mixed_after (suc n) [] i h = refl
mixed_after (suc n) (k ∷ ks) zero h = absurd (not-suc-le-zero h)
mixed_after (suc n) (k ∷ ks) (suc i) h = mixed_after n ks i (le_of_suc-le-suc h)

pub keys_inverted : KeysInverted
unfolding kept_first
keys_inverted [] e = absurd (omega (arith, e))
keys_inverted (k ∷ ks) e =
    record {
      first = refl;
      middle = λ n p h. middle n p h;
      last = mixed_after 9 ks 9 (omega arith);
    }
  where
    middle : (n : ℕ) → 0 < n → n < 10 → get_or (k ∷ mixed_keys 9 ks) n [] ≡ inv_mix_columns (get_or (k ∷ ks) n [])
    middle zero p h = absurd (not-suc-le-zero p)
    middle (suc n) p h = mixed_below 9 ks n (omega arith) (omega (arith, e))

pub equivalent_inverse : EquivalentInverse
equivalent_inverse ks e s = equivalent ks (inverted_keys ks) (keys_inverted ks e) s

-- ---- one more round key mixed, for any list

mixed_step : (n : ℕ) (ks : List State) → set (mixed_keys n ks) n (inv_mix_columns (get_or (mixed_keys n ks) n [])) ≡ mixed_keys (suc n) ks
unfolding mixed_keys
mixed_step zero [] = refl
mixed_step zero (k ∷ ks) = refl
mixed_step (suc n) [] = refl
mixed_step (suc n) (k ∷ ks) = ap (λ (l : List State). inv_mix_columns k ∷ l) (mixed_step n ks)

pub kept_step : (n : ℕ) (ks : List State)
    → set (kept_first n ks) (suc n) (inv_mix_columns (get_or (kept_first n ks) (suc n) [])) ≡ kept_first (suc n) ks
unfolding kept_first
kept_step n [] = refl
kept_step n (k ∷ ks) = ap (λ (l : List State). k ∷ l) (mixed_step n ks)

pub kept_none : (ks : List State) → kept_first 0 ks ≡ ks
unfolding kept_first mixed_keys
kept_none [] = refl
kept_none (k ∷ ks) = refl
