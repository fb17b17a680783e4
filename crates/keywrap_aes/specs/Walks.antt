-- Step by step, each way through the blocks comes to what the definitions say.
use mathlib.Core.Path.{◌≡◌, refl, sym, ap, ◌∙◌}
use mathlib.Core.List.{List}
use Prim.Native.Nat.{ℕ, zero, suc, ◌+◌, ◌-◌, ◌*◌, ◌/◌, ◌≤◌}
use native.Mathlib.Omega.{arith}
use lib.ListN.{length}
use Rattle.fips197.specs.State.{State, columns, bytes, add_round_key}
use Rattle.fips197.specs.Cipher.{cipher, eq_inv_cipher, inverted_keys}
use Rattle.fips197.specs.KeyExpansion.{expand_key}
use Rattle.fips197.proofs.Equivalent.{equivalent_inverse}
use Rattle.keywrap_aes.specs.declared.passes.Direction.TheVariants.{Forward, Back}
use Rattle.rfc3394.specs.Rfc3394.{key_state, add_count, Registers, round_keys, wrap_step, unwrap_step, wrap_pass, unwrap_pass, wrap_passes, unwrap_passes}
use Rattle.keywrap_aes.specs.Internal.{forward_step, back_step, stepped, walk, walks, passes_of}

-- ---- forward

module _ (ks : List State) where
  forward_stepped : (t i : ℕ) (x : Registers) → stepped (forward_step ks) t i x ≡ wrap_step (cipher ks) t i x
  unfolding wrap_step add_count
  forward_stepped t i x = refl

  forward_walk : (c k : ℕ) (x : Registers) → walk (forward_step ks) (λ (m : ℕ). m) c k x ≡ wrap_pass (cipher ks) c k x
  unfolding walk wrap_pass
  forward_walk c zero x = refl
  forward_walk c (suc k) x =
      ap (stepped (forward_step ks) (c + suc k) k) (forward_walk c k x) ∙ forward_stepped (c + suc k) k (wrap_pass (cipher ks) c k x)

  forward_all : (n j : ℕ) (x : Registers) → walks (forward_step ks) (λ (m k : ℕ). k) n j x ≡ wrap_passes (cipher ks) n j x
  unfolding walks wrap_passes
  forward_all n zero x = refl
  forward_all n (suc j) x =
      ap (walk (forward_step ks) (λ (m : ℕ). m) (n * j) n) (forward_all n j x) ∙ forward_walk (n * j) n (wrap_passes (cipher ks) n j x)

pub forward_by_bytes : (ks : List State) (t : ℕ) (s : State) → forward_step ks t s ≡ forward_step ks t (columns (bytes (λ (x : ℕ). x)) s)
unfolding cipher add_round_key
forward_by_bytes ks t s = refl

pub forward_walks : (kek : List ℕ) (ks : List State) → ks ≡ expand_key (key_state kek) → (x : Registers)
    → walks (forward_step ks) (λ (n k : ℕ). k) (length x.1 / 8) 6 x ≡ passes_of Forward kek x
unfolding round_keys
forward_walks kek ks e x = forward_all ks (length x.1 / 8) 6 x ∙ ap (λ (l : List State). wrap_passes (cipher l) (length x.1 / 8) 6 x) e

-- ---- back: what is left after k turns comes to the whole

module _ (ks : List State) where
  back_stepped : (t i : ℕ) (x : Registers) → stepped (back_step ks) t i x ≡ unwrap_step (eq_inv_cipher ks) t i x
  unfolding unwrap_step add_count
  back_stepped t i x = refl

  back_turn : (c m p : ℕ) (x : Registers) → m ≡ suc p
      → unwrap_pass (eq_inv_cipher ks) c p (stepped (back_step ks) (c + suc p) p x) ≡ unwrap_pass (eq_inv_cipher ks) c m x
  unfolding unwrap_pass
  back_turn c m p x e =
      ap (unwrap_pass (eq_inv_cipher ks) c p) (back_stepped (c + suc p) p x) ∙ ap (λ (i : ℕ). unwrap_pass (eq_inv_cipher ks) c i x) (sym e)

  back_walk : (c n k : ℕ) (x : Registers) → k ≤ n
      → unwrap_pass (eq_inv_cipher ks) c (n - k) (walk (back_step ks) (λ (i : ℕ). n - 1 - i) c k x) ≡ unwrap_pass (eq_inv_cipher ks) c n x
  unfolding walk
  back_walk c n zero x h = ap (λ (i : ℕ). unwrap_pass (eq_inv_cipher ks) c i x) (omega arith)
  back_walk c n (suc k) x h =
      let y : Registers = walk (back_step ks) (λ (i : ℕ). n - 1 - i) c k x in
      let e : n - suc k ≡ n - 1 - k = omega arith in
      ap (λ (i : ℕ). unwrap_pass (eq_inv_cipher ks) c i (stepped (back_step ks) (c + suc (n - 1 - k)) (n - 1 - k) y)) e
      ∙ back_turn c (n - k) (n - 1 - k) y (omega arith)
      ∙ back_walk c n k x (omega arith)

  back_whole : (c n : ℕ) (x : Registers) → walk (back_step ks) (λ (i : ℕ). n - 1 - i) c n x ≡ unwrap_pass (eq_inv_cipher ks) c n x
  unfolding unwrap_pass
  back_whole c n x =
      let e : 0 ≡ n - n = omega arith in
      ap (λ (i : ℕ). unwrap_pass (eq_inv_cipher ks) c i (walk (back_step ks) (λ (i : ℕ). n - 1 - i) c n x)) e ∙ back_walk c n n x (omega arith)

  passes_turn : (n m p : ℕ) (x : Registers) → m ≡ suc p
      → unwrap_passes (eq_inv_cipher ks) n p (walk (back_step ks) (λ (i : ℕ). n - 1 - i) (n * p) n x) ≡ unwrap_passes (eq_inv_cipher ks) n m x
  unfolding unwrap_passes
  passes_turn n m p x e =
      ap (unwrap_passes (eq_inv_cipher ks) n p) (back_whole (n * p) n x) ∙ ap (λ (i : ℕ). unwrap_passes (eq_inv_cipher ks) n i x) (sym e)

  back_left : (n j : ℕ) (x : Registers) → j ≤ 6
      → unwrap_passes (eq_inv_cipher ks) n (6 - j) (walks (back_step ks) (λ (m k : ℕ). m - 1 - k) n j x) ≡ unwrap_passes (eq_inv_cipher ks) n 6 x
  unfolding walks
  back_left n zero x h = refl
  back_left n (suc j) x h =
      let y : Registers = walks (back_step ks) (λ (m k : ℕ). m - 1 - k) n j x in
      let e : 6 - suc j ≡ 6 - 1 - j = omega arith in
      ap (λ (i : ℕ). unwrap_passes (eq_inv_cipher ks) n i (walk (back_step ks) (λ (i : ℕ). n - 1 - i) (n * (6 - 1 - j)) n y)) e
      ∙ passes_turn n (6 - j) (6 - 1 - j) y (omega arith)
      ∙ back_left n j x (omega arith)

  back_all : (n : ℕ) (x : Registers) → walks (back_step ks) (λ (m k : ℕ). m - 1 - k) n 6 x ≡ unwrap_passes (eq_inv_cipher ks) n 6 x
  unfolding unwrap_passes
  back_all n x = back_left n 6 x (omega arith)

pub back_by_bytes : (ks : List State) (t : ℕ) (s : State) → back_step ks t s ≡ back_step ks t (columns (bytes (λ (x : ℕ). x)) s)
unfolding add_count
back_by_bytes ks t s = refl

eleven : (kek : List ℕ) → length (round_keys kek) ≡ 11
unfolding round_keys expand_key
eleven kek = refl

pub back_walks : (kek : List ℕ) (ks ds : List State) → ks ≡ expand_key (key_state kek) → ds ≡ inverted_keys ks → (x : Registers)
    → walks (back_step ds) (λ (n k : ℕ). n - 1 - k) (length x.1 / 8) 6 x ≡ passes_of Back kek x
unfolding round_keys
back_walks kek ks ds e h x =
    back_all ds (length x.1 / 8) x
    ∙ ap (λ (l : List State). unwrap_passes (eq_inv_cipher l) (length x.1 / 8) 6 x) (h ∙ ap inverted_keys e)
    ∙ ap (λ (d : State → State). unwrap_passes d (length x.1 / 8) 6 x) (λ i s. equivalent_inverse (round_keys kek) (eleven kek) s i)
