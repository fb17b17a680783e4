-- The cipher and the inverse cipher undo each other, both ways, under round keys of sixteen bytes each, and those of any key are such.
-- Each step undoes its inverse; so does a round, where the steps of the inverse cipher are grouped from one look-up to the next; and so do the ten.
use mathlib.Core.Path.{◌≡◌, refl, sym, ap, ◌∙◌, subst}
use mathlib.Core.List.{List, []}
use Prim.Native.Nat.{ℕ, zero, suc, ◌<◌}
use native.Mathlib.Omega.{arith}
use lib.ListN.{get_or}
use Rattle.fips197.specs.State.{State, Column, column, Block, block, inv_sub_bytes, shift_rows, inv_shift_rows, mix_columns, inv_mix_columns, add_round_key}
use Rattle.fips197.specs.Cipher.{round, last_round, inv_round, inv_last_round, rounds, inv_rounds, cipher, inv_cipher}
use Rattle.fips197.specs.KeyExpansion.{rcon, key_core, next_key, round_key, expand_key}
use Rattle.fips197.specs.Statements.{CipherUndone}
use Rattle.fips197.proofs.Steps.{sub_bytes-block, inv_sub_bytes-block, unsub, resub, shift_rows-block, inv_shift_rows-block, unshift, reshift, mix_columns-block, inv_mix_columns-block, unmix, remix, add_column-column, add_round_key-block, unadd, xor_byte, xtime_byte}
use Rattle.aes_sbox.proofs.Tables.{sbox_of_byte}

-- ---- the inverse cipher, grouped from one look-up to the next

abbrev pub begun : State → State
begun s = inv_sub_bytes (inv_shift_rows s)

-- the rest of a round, and the beginning of the next
unfoldable pub gone_on : State → State → State
gone_on k s = begun (inv_mix_columns (add_round_key s k))

unfoldable pub turns : List State → ℕ → State → State
turns ks zero s = s
turns ks (suc n) s = turns ks n (gone_on (get_or ks (suc n) []) s)

regroup : (ks : List State) (n : ℕ) (s : State) → begun (inv_rounds ks n s) ≡ turns ks n (begun s)
unfolding inv_rounds turns gone_on inv_round
regroup ks zero s = refl
regroup ks (suc n) s = regroup ks n (inv_round (get_or ks (suc n) []) s)

pub regrouped : (ks : List State) (s : State)
    → inv_cipher ks s ≡ add_round_key (turns ks 9 (begun (add_round_key s (get_or ks 10 [])))) (get_or ks 0 [])
unfolding inv_cipher inv_last_round
regrouped ks s = ap (λ (x : State). add_round_key x (get_or ks 0 [])) (regroup ks 9 (add_round_key s (get_or ks 10 [])))

abbrev pub Keys : List State → Type 0
Keys ks = (n : ℕ) → n < 11 → Block (get_or ks n [])

-- ---- a round

module _ {s k : State} (b : Block s) (h : Block k) where
  round-block : Block (round k s)
  unfolding round
  round-block = add_round_key-block (mix_columns-block (shift_rows-block (sub_bytes-block b))) h

  lastRound-block : Block (last_round k s)
  unfolding last_round
  lastRound-block = add_round_key-block (shift_rows-block (sub_bytes-block b)) h

  begun-block : Block (begun (add_round_key s k))
  begun-block = inv_sub_bytes-block (inv_shift_rows-block (add_round_key-block b h))

  goneOn-block : Block (gone_on k s)
  unfolding gone_on
  goneOn-block = inv_sub_bytes-block (inv_shift_rows-block (inv_mix_columns-block (add_round_key-block b h)))

  unround : gone_on k (round k s) ≡ s
  unfolding round gone_on
  unround =
      let u = sub_bytes-block b in
      let v = shift_rows-block u in
      ap (λ (x : State). begun (inv_mix_columns x)) (unadd (mix_columns-block v) h) ∙ ap begun (unmix v) ∙ ap inv_sub_bytes (unshift u) ∙ unsub b

  reround : round k (gone_on k s) ≡ s
  unfolding round gone_on
  reround =
      let u = add_round_key-block b h in
      let v = inv_mix_columns-block u in
      ap (λ (x : State). add_round_key (mix_columns (shift_rows x)) k) (resub (inv_shift_rows-block v))
      ∙ ap (λ (x : State). add_round_key (mix_columns x) k) (reshift v)
      ∙ ap (λ (x : State). add_round_key x k) (remix u)
      ∙ unadd b h

  unlast : begun (add_round_key (last_round k s) k) ≡ s
  unfolding last_round
  unlast = let u = sub_bytes-block b in ap begun (unadd (shift_rows-block u) h) ∙ ap inv_sub_bytes (unshift u) ∙ unsub b

  relast : last_round k (begun (add_round_key s k)) ≡ s
  unfolding last_round
  relast =
      let u = add_round_key-block b h in
      ap (λ (x : State). add_round_key (shift_rows x) k) (resub (inv_shift_rows-block u)) ∙ ap (λ (x : State). add_round_key x k) (reshift u) ∙ unadd b h

-- ---- the rounds 1 to n

module _ (ks : List State) (keys : Keys ks) where
  rounds-block : (n : ℕ) → n < 11 → {s : State} → Block s → Block (rounds ks n s)
  unfolding rounds
  rounds-block zero h b = b
  rounds-block (suc n) h b = round-block (rounds-block n (omega arith) b) (keys (suc n) h)

  turns-block : (n : ℕ) → n < 11 → {s : State} → Block s → Block (turns ks n s)
  unfolding turns
  turns-block zero h b = b
  turns-block (suc n) h b = turns-block n (omega arith) (goneOn-block b (keys (suc n) h))

  unrounds : (n : ℕ) → n < 11 → {s : State} → Block s → turns ks n (rounds ks n s) ≡ s
  unfolding rounds turns
  unrounds zero h b = refl
  unrounds (suc n) h b = ap (turns ks n) (unround (rounds-block n (omega arith) b) (keys (suc n) h)) ∙ unrounds n (omega arith) b

  rerounds : (n : ℕ) → n < 11 → {s : State} → Block s → rounds ks n (turns ks n s) ≡ s
  unfolding rounds turns
  rerounds zero h b = refl
  rerounds (suc n) h b = ap (round (get_or ks (suc n) [])) (rerounds n (omega arith) (goneOn-block b (keys (suc n) h))) ∙ reround b (keys (suc n) h)

  key0 : Block (get_or ks 0 [])
  key0 = keys 0 (omega arith)

  key10 : Block (get_or ks 10 [])
  key10 = keys 10 (omega arith)

  pub cipher-block : {s : State} → Block s → Block (cipher ks s)
  unfolding cipher
  cipher-block b = lastRound-block (rounds-block 9 (omega arith) (add_round_key-block b key0)) key10

  pub inv_cipher_block : {s : State} → Block s → Block (inv_cipher ks s)
  inv_cipher_block {s} b = rw regrouped (add_round_key-block (turns-block 9 (omega arith) (begun-block b key10)) key0)

  -- what is encrypted is decrypted again
  pub uncipher : {s : State} → Block s → inv_cipher ks (cipher ks s) ≡ s
  unfolding cipher
  uncipher {s} b =
      let u = add_round_key-block b key0 in
      regrouped ks (last_round (get_or ks 10 []) (rounds ks 9 (add_round_key s (get_or ks 0 []))))
      ∙ ap (λ (x : State). add_round_key (turns ks 9 x) (get_or ks 0 [])) (unlast (rounds-block 9 (omega arith) u) key10)
      ∙ ap (λ (x : State). add_round_key x (get_or ks 0 [])) (unrounds 9 (omega arith) u)
      ∙ unadd b key0

  -- what is decrypted is encrypted again
  pub recipher : {s : State} → Block s → cipher ks (inv_cipher ks s) ≡ s
  unfolding cipher
  recipher {s} b =
      let u = begun-block b key10 in
      let v = turns-block 9 (omega arith) u in
      ap (λ (x : State). last_round (get_or ks 10 []) (rounds ks 9 (add_round_key x (get_or ks 0 [])))) (regrouped ks s)
      ∙ ap (λ (x : State). last_round (get_or ks 10 []) (rounds ks 9 x)) (unadd v key0)
      ∙ ap (last_round (get_or ks 10 [])) (rerounds 9 (omega arith) u)
      ∙ relast b key10

-- ---- the round keys

rcon_byte : (n : ℕ) → rcon n < 256
unfolding rcon
rcon_byte zero = omega arith
rcon_byte (suc n) = xtime_byte (rcon n)

key_core-column : (r : ℕ) → r < 256 → {w : List ℕ} → Column w → Column (key_core w r)
unfolding key_core
key_core-column r h (column a b c d) =
    column (xor_byte (sbox_of_byte _ b) h) (sbox_of_byte _ c) (sbox_of_byte _ d) (sbox_of_byte _ a)

next_key-block : (r : ℕ) → r < 256 → {k : State} → Block k → Block (next_key k r)
unfolding next_key
next_key-block r h (block p q u v) =
    let w0 = add_column-column p (key_core-column r h v) in
    let w1 = add_column-column q w0 in
    let w2 = add_column-column u w1 in
    block w0 w1 w2 (add_column-column v w2)

round_key-block : (k : State) → Block k → (n : ℕ) → Block (round_key k n)
unfolding round_key
round_key-block k b zero = b
round_key-block k b (suc n) = next_key-block (rcon n) (rcon_byte n) (round_key-block k b n)

-- round key n stands at place n
pub expand_key_at : (k : State) (n : ℕ) → n < 11 → get_or (expand_key k) n [] ≡ round_key k n
unfolding expand_key
expand_key_at k zero h = refl
expand_key_at k (suc zero) h = refl
expand_key_at k (suc (suc zero)) h = refl
expand_key_at k (suc (suc (suc zero))) h = refl
expand_key_at k (suc (suc (suc (suc zero)))) h = refl
expand_key_at k (suc (suc (suc (suc (suc zero))))) h = refl
expand_key_at k (suc (suc (suc (suc (suc (suc zero)))))) h = refl
expand_key_at k (suc (suc (suc (suc (suc (suc (suc zero))))))) h = refl
expand_key_at k (suc (suc (suc (suc (suc (suc (suc (suc zero)))))))) h = refl
expand_key_at k (suc (suc (suc (suc (suc (suc (suc (suc (suc zero))))))))) h = refl
expand_key_at k (suc (suc (suc (suc (suc (suc (suc (suc (suc (suc zero)))))))))) h = refl
expand_key_at k (suc (suc (suc (suc (suc (suc (suc (suc (suc (suc (suc n))))))))))) h = absurd (omega arith)

pub expand_key_keys : (k : State) → Block k → Keys (expand_key k)
expand_key_keys k b n h = subst Block (sym (expand_key_at k n h)) (round_key-block k b n)

-- under the round keys of any key each cipher undoes the other
pub cipher_undone : CipherUndone
cipher_undone k b s h = (uncipher (expand_key k) (expand_key_keys k b) h, recipher (expand_key k) (expand_key_keys k b) h)
