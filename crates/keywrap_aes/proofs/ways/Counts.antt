-- A count below 256 is added to the last byte of A alone, and the ciphers take a state by its bytes.
use mathlib.Core.Path.{◌≡◌, refl, sym, ap, ◌∙◌}
use mathlib.Core.List.{List, [], ◌∷◌}
use Prim.Native.Nat.{ℕ, ◌/◌, ◌%◌, ◌^◌, ◌<◌}
use native.Mathlib.Omega.{arith}
use lib.Bits.{bit_xor, xor_zero_r}
use Rattle.fips197.specs.State.{State, bytes, columns, add_round_key}
use Rattle.fips197.specs.Cipher.{last_round, cipher, eq_inv_cipher}
use Rattle.rfc3394.specs.Rfc3394.{joined, low, add_count, counted}
use Rattle.keywrap_aes.specs.Internal.{count_added}

none : (x y : ℕ) → y ≡ 0 → x ≡ bit_xor x y
none x y e = sym (ap (bit_xor x) e ∙ xor_zero_r x)

small_count : (t a b c d e f g h : ℕ) → t < 256
    → a ∷ b ∷ c ∷ d ∷ e ∷ f ∷ g ∷ bit_xor h t ∷ [] ≡ add_count t (a ∷ b ∷ c ∷ d ∷ e ∷ f ∷ g ∷ h ∷ [])
unfolding add_count
small_count t a b c d e f g h n =
    let q : t ≡ t % 256 = omega arith in
    λ i. none a (t / 2 ^ 56 % 256) (omega arith) i ∷ none b (t / 2 ^ 48 % 256) (omega arith) i
    ∷ none c (t / 2 ^ 40 % 256) (omega arith) i ∷ none d (t / 2 ^ 32 % 256) (omega arith) i
    ∷ none e (t / 2 ^ 24 % 256) (omega arith) i ∷ none f (t / 2 ^ 16 % 256) (omega arith) i
    ∷ none g (t / 2 ^ 8 % 256) (omega arith) i ∷ bit_xor h (q i)
    ∷ []

abbrev laid_out : State → State
laid_out s = columns (bytes (λ (x : ℕ). x)) s

count-bytes : (t : ℕ) → t < 256 → (s : State) → laid_out (count_added t s) ≡ counted t s
count-bytes t h s = ap (λ (a : List ℕ). joined a (low s)) (small_count t _ _ _ _ _ _ _ _ h)

by_bytes : (ks : List State) (s : State) → eq_inv_cipher ks s ≡ eq_inv_cipher ks (laid_out s)
unfolding eq_inv_cipher add_round_key
by_bytes ks s = refl

module _ (ks : List State) (t : ℕ) (h : t < 256) where
  pub wrap_by : (s b r : State) → b ≡ cipher ks s → r ≡ count_added t b → r ≡ counted t (cipher ks s)
  unfolding cipher last_round add_round_key
  wrap_by s b r eb er = er ∙ ap (count_added t) eb ∙ count-bytes t h (cipher ks s)

  pub unwrap_by : (s a r : State) → a ≡ count_added t s → r ≡ eq_inv_cipher ks a → r ≡ eq_inv_cipher ks (counted t s)
  unwrap_by s a r ea er = er ∙ ap (eq_inv_cipher ks) ea ∙ by_bytes ks (count_added t s) ∙ ap (eq_inv_cipher ks) (count-bytes t h s)
