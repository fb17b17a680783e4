-- FIPS 197 sections 5.1 and 5.3: the cipher, the inverse cipher and the equivalent inverse cipher of AES-128 (Nr = 10), under the round
-- keys ks, counted from 0.
use Rattle.std.specs.Prelude.{List, [], ◌∷◌, ℕ, zero, suc, get_or}
use Rattle.fips197.specs.State.{State, sub_bytes, inv_sub_bytes, shift_rows, inv_shift_rows, mix_columns, inv_mix_columns, add_round_key}

-- Figure 5, a round with the round key k.
unfoldable pub round : State → State → State
round k s = add_round_key (mix_columns (shift_rows (sub_bytes s))) k

-- The rounds 1 to n.
unfoldable pub rounds : List State → ℕ → State → State
rounds ks zero s = s
rounds ks (suc n) s = round (get_or ks (suc n) []) (rounds ks n s)

-- The last round, which mixes no columns.
unfoldable pub last_round : State → State → State
last_round k s = add_round_key (shift_rows (sub_bytes s)) k

-- Figure 5.
unfoldable pub cipher : List State → State → State
cipher ks s = last_round (get_or ks 10 []) (rounds ks 9 (add_round_key s (get_or ks 0 [])))

-- Figure 12, a round of the inverse cipher with the round key k.
unfoldable pub inv_round : State → State → State
inv_round k s = inv_mix_columns (add_round_key (inv_sub_bytes (inv_shift_rows s)) k)

-- The rounds n down to 1.
unfoldable pub inv_rounds : List State → ℕ → State → State
inv_rounds ks zero s = s
inv_rounds ks (suc n) s = inv_rounds ks n (inv_round (get_or ks (suc n) []) s)

-- Its last round.
unfoldable pub inv_last_round : State → State → State
inv_last_round k s = add_round_key (inv_sub_bytes (inv_shift_rows s)) k

-- Figure 12.
unfoldable pub inv_cipher : List State → State → State
inv_cipher ks s = inv_last_round (get_or ks 0 []) (inv_rounds ks 9 (add_round_key s (get_or ks 10 [])))

-- Figure 15, the equivalent inverse cipher: a round with the round key k.
unfoldable pub eq_inv_round : State → State → State
eq_inv_round k s = add_round_key (inv_mix_columns (inv_shift_rows (inv_sub_bytes s))) k

-- The rounds n down to 1.
unfoldable pub eq_inv_rounds : List State → ℕ → State → State
eq_inv_rounds ks zero s = s
eq_inv_rounds ks (suc n) s = eq_inv_rounds ks n (eq_inv_round (get_or ks (suc n) []) s)

-- Its last round.
unfoldable pub eq_inv_last_round : State → State → State
eq_inv_last_round k s = add_round_key (inv_shift_rows (inv_sub_bytes s)) k

-- Figure 15.
unfoldable pub eq_inv_cipher : List State → State → State
eq_inv_cipher ks s = eq_inv_last_round (get_or ks 0 []) (eq_inv_rounds ks 9 (add_round_key s (get_or ks 10 [])))

-- Section 5.3.5: the round keys of the equivalent inverse cipher, made of those of the cipher. The first is kept, InvMixColumns is taken of the
-- next nine, and the rest is kept.
unfoldable pub mixed_keys : ℕ → List State → List State
mixed_keys zero ks = ks
mixed_keys (suc n) [] = []
mixed_keys (suc n) (k ∷ ks) = inv_mix_columns k ∷ mixed_keys n ks

unfoldable pub kept_first : ℕ → List State → List State
kept_first n [] = []
kept_first n (k ∷ ks) = k ∷ mixed_keys n ks

abbrev pub inverted_keys : List State → List State
inverted_keys ks = kept_first 9 ks
