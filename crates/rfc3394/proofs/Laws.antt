-- What is wrapped is unwrapped again, with the initial value; and bytes that unwrap with the initial value are what wrapping their key gives. Both hold under any
-- KEK of bytes, for a key of any length: the passes run over its whole blocks of eight.
use mathlib.Core.Path.{◌≡◌, refl, sym, ap, ap₂, ◌∙◌}
use mathlib.Core.List.{List, ◌++◌}
use Prim.Native.Nat.{ℕ, ◌+◌, ◌-◌, ◌*◌, ◌/◌, ◌≤◌}
use native.Mathlib.Omega.{arith}
use lib.ListN.{length, take, drop, length-append, length-drop, take-append-drop}
use lib.Seq.{length-take-le, take_at, drop_at}
use Rattle.fips197.specs.State.{State, Block, block, column}
use Rattle.fips197.specs.Cipher.{cipher, inv_cipher}
use Rattle.fips197.proofs.Rounds.{Keys, cipher-block, inv_cipher_block, uncipher, recipher, expand_key_keys}
use Rattle.slices.specs.Bytes.{Bytes}
use Rattle.rfc3394.specs.Rfc3394.{initial_value, Registers, wrap_passes, unwrap_passes, key_state, round_keys, wrap_registers, wrapped, unwrap_registers, unwrapped_iv, unwrapped_key}
use Rattle.rfc3394.specs.Statements.{UnwrapUndoes, WrapUndoes, WrappedLength, UnwrappedLength}
use Rattle.slices.proofs.Bytes.{bytes_take, bytes_drop}
use Rattle.rfc3394.proofs.Halves.{half_of, half_length, initial_half}
use Rattle.rfc3394.proofs.Steps.{Ready, registers≡, passes_ready, unpasses_ready, unpasses_passes, passes_unpasses}

module _ (kek : List ℕ) (k : Bytes kek) where
  keys : Keys (round_keys kek)
  unfolding round_keys
  keys =
      expand_key_keys (key_state kek)
      (block (column (k 0) (k 1) (k 2) (k 3)) (column (k 4) (k 5) (k 6) (k 7)) (column (k 8) (k 9) (k 10) (k 11)) (column (k 12) (k 13) (k 14) (k 15)))

  E : State → State
  E = cipher (round_keys kek)

  D : State → State
  D = inv_cipher (round_keys kek)

  keepsE : (s : State) → Block s → Block (E s)
  unfolding E
  keepsE s b = cipher-block (round_keys kek) keys b

  keepsD : (s : State) → Block s → Block (D s)
  unfolding D
  keepsD s b = inv_cipher_block (round_keys kek) keys b

  undone : (s : State) → Block s → D (E s) ≡ s
  unfolding E D
  undone s b = uncipher (round_keys kek) keys b

  redone : (s : State) → Block s → E (D s) ≡ s
  unfolding E D
  redone s b = recipher (round_keys kek) keys b

  -- ---- the registers

  module _ (key : List ℕ) (b : Bytes key) where
    whole-blocks : length key / 8 * 8 ≤ length key
    whole-blocks = omega arith

    before : Ready (length key) (initial_value, key)
    before = record { first = initial_half; bytes = b; count = refl }

    wrap-ready : Ready (length key) (wrap_registers kek key)
    unfolding wrap_registers E
    wrap-ready = passes_ready E D keepsE keepsD undone redone (length key) (length key / 8) whole-blocks 6 (initial_value, key) before

    unwrap-wrap : unwrap_passes (inv_cipher (round_keys kek)) (length key / 8) 6 (wrap_registers kek key) ≡ (initial_value, key)
    unfolding wrap_registers E D
    unwrap-wrap = unpasses_passes E D keepsE keepsD undone redone (length key) (length key / 8) whole-blocks 6 (initial_value, key) before

    -- the wrapped key is 8 bytes longer than the key
    length-wrapped-of : length (wrapped kek key) ≡ length key + 8
    unfolding wrapped
    length-wrapped-of = let f = half_length wrap-ready.first in let s = wrap-ready.count in simp length-append (omega arith)

    -- unwrapping starts where wrapping ended
    again : unwrap_registers kek (wrapped kek key) ≡ (initial_value, key)
    unfolding unwrap_registers wrapped
    again =
        let a : List ℕ = (wrap_registers kek key).0 in
        let r : List ℕ = (wrap_registers kek key).1 in
        let f = half_length wrap-ready.first in
        let s = wrap-ready.count in
        ap (λ (x : Registers). unwrap_passes (inv_cipher (round_keys kek)) (length x.1 / 8) 6 x) (registers≡ (take_at a r 8 f) (drop_at a r 8 f))
        ∙ ap (λ (m : ℕ). unwrap_passes (inv_cipher (round_keys kek)) (m / 8) 6 (a, r)) s
        ∙ unwrap-wrap

    -- unwrapping a wrapped key yields the initial value and the key
    unwrap-initial-of : unwrapped_iv kek (wrapped kek key) ≡ initial_value
    unfolding unwrapped_iv
    unwrap-initial-of = ap (λ (x : Registers). x.0) again

    unwrap-key-of : unwrapped_key kek (wrapped kek key) ≡ key
    unfolding unwrapped_key
    unwrap-key-of = ap (λ (x : Registers). x.1) again

  module _ (w : List ℕ) (b : Bytes w) (long : 8 ≤ length w) where
    rest : length (drop 8 w) ≡ length w - 8
    rest = length-drop 8 w

    rest-blocks : length (drop 8 w) / 8 * 8 ≤ length w - 8
    rest-blocks = let e = rest in omega arith

    received : Ready (length w - 8) (take 8 w, drop 8 w)
    received = record { first = half_of (take 8 w) (length-take-le 8 w long) (bytes_take 8 w b); bytes = bytes_drop 8 w b; count = rest }

    unwrap-ready : Ready (length w - 8) (unwrap_registers kek w)
    unfolding unwrap_registers D
    unwrap-ready = unpasses_ready E D keepsE keepsD undone redone (length w - 8) (length (drop 8 w) / 8) rest-blocks 6 (take 8 w, drop 8 w) received

    wrap-unwrap : wrap_passes (cipher (round_keys kek)) (length (drop 8 w) / 8) 6 (unwrap_registers kek w) ≡ (take 8 w, drop 8 w)
    unfolding unwrap_registers E D
    wrap-unwrap = passes_unpasses E D keepsE keepsD undone redone (length w - 8) (length (drop 8 w) / 8) rest-blocks 6 (take 8 w, drop 8 w) received

    length-unwrappedKey-of : length (unwrapped_key kek w) ≡ length w - 8
    unfolding unwrapped_key
    length-unwrappedKey-of = unwrap-ready.count

    -- bytes that unwrap with the initial value are the wrapping of their key
    wrap-again-of : unwrapped_iv kek w ≡ initial_value → wrapped kek (unwrapped_key kek w) ≡ w
    unfolding unwrapped_iv unwrapped_key wrapped wrap_registers
    wrap-again-of e =
        let q : wrap_passes (cipher (round_keys kek)) (length (unwrap_registers kek w).1 / 8) 6 (initial_value, (unwrap_registers kek w).1) ≡ (take 8 w, drop 8 w)
        = ap₂ (λ (m : ℕ) (a : List ℕ). wrap_passes (cipher (round_keys kek)) (m / 8) 6 (a, (unwrap_registers kek w).1)) (unwrap-ready.count ∙ sym rest) (sym e) ∙ wrap-unwrap in
        ap (λ (x : Registers). x.0 ++ x.1) q ∙ take-append-drop 8 w

-- ---- the statements

pub unwrap_undoes : UnwrapUndoes
unwrap_undoes kek k key b = (unwrap-initial-of kek k key b, unwrap-key-of kek k key b)

pub wrap_again : WrapUndoes
wrap_again kek k w b long e = wrap-again-of kek k w b long e

pub length-wrapped : WrappedLength
length-wrapped kek k key b = length-wrapped-of kek k key b

pub length-unwrapped_key : UnwrappedLength
length-unwrapped_key kek k w b long = length-unwrappedKey-of kek k w b long

-- its two parts
module _ (kek : List ℕ) (k : Bytes kek) (key : List ℕ) (b : Bytes key) where
  pub unwrap_initial : unwrapped_iv kek (wrapped kek key) ≡ initial_value
  unwrap_initial = (unwrap_undoes kek k key b).0

  pub unwrap_key : unwrapped_key kek (wrapped kek key) ≡ key
  unwrap_key = (unwrap_undoes kek k key b).1
