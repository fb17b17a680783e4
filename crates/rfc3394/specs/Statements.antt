-- What is proved of the key wrap, under any KEK of bytes and for a key of any length: the passes run over its whole blocks of eight.
use Rattle.std.specs.Prelude.{◌≡◌, List, ℕ, ◌+◌, ◌-◌, ◌≤◌, length}
use Rattle.slices.specs.Bytes.{Bytes}
use Rattle.rfc3394.specs.Rfc3394.{initial_value, wrapped, unwrapped_iv, unwrapped_key}

-- Unwrapping a wrapped key yields the initial value and the key.
abbrev pub UnwrapUndoes : Type 0
UnwrapUndoes =
    (kek : List ℕ) → Bytes kek → (key : List ℕ) → Bytes key
    → (unwrapped_iv kek (wrapped kek key) ≡ initial_value) × (unwrapped_key kek (wrapped kek key) ≡ key)

-- Bytes that unwrap with the initial value are the wrapping of their key.
abbrev pub WrapUndoes : Type 0
WrapUndoes =
    (kek : List ℕ) → Bytes kek → (w : List ℕ) → Bytes w → 8 ≤ length w
    → unwrapped_iv kek w ≡ initial_value → wrapped kek (unwrapped_key kek w) ≡ w

-- A wrapped key is 8 bytes longer than the key.
abbrev pub WrappedLength : Type 0
WrappedLength = (kek : List ℕ) → Bytes kek → (key : List ℕ) → Bytes key → length (wrapped kek key) ≡ length key + 8

abbrev pub UnwrappedLength : Type 0
UnwrappedLength =
    (kek : List ℕ) → Bytes kek → (w : List ℕ) → Bytes w → 8 ≤ length w → length (unwrapped_key kek w) ≡ length w - 8
