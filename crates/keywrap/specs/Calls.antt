-- The tests of the two calls, wrap and unwrap, by document 01's numbers ("Refusal numbers", "Key attribute").
use Rattle.std.specs.Prelude.{Bool, ◌&&◌, List, ℕ, ◌+◌, ◌-◌, ◌%◌, eqb, length}
use Rattle.refusal.specs.Checks.{Check, bare, unless, ◌and_then◌, within, check6}
use Rattle.slices.specs.Same.{same_list}
use Rattle.rfc3394.specs.Rfc3394.{initial_value, unwrapped_iv}

-- 23: key to wrap not a multiple of 8 from 16 to 192 bytes.
unfoldable pub wrappable : ℕ → Bool
wrappable n = within 16 192 n && eqb (n % 8) 0

abbrev pub check23 : ℕ → Check
check23 n = unless (wrappable n) (bare 23)

-- 28: unwrapping does not yield the initial value A6 (eight times).
abbrev pub check28 : List ℕ → Check
check28 iv = unless (same_list iv initial_value) (bare 28)

-- The order of wrapping a key of n bytes: 23, 6.
unfoldable pub wrap_check : ℕ → ℕ → Check
wrap_check n room = check23 n and_then check6 (n + 8) room

-- The length of the key that wrapped bytes hold: 8 less. Where there are fewer than 8 it is 0, which 23 refuses.
abbrev pub key_length : List ℕ → ℕ
key_length bytes = length bytes - 8

-- The order of unwrapping: 23 for the length of the key, 6, 28.
unfoldable pub unwrap_check : List ℕ → List ℕ → ℕ → Check
unwrap_check kek bytes room = check23 (key_length bytes) and_then check6 (key_length bytes) room and_then check28 (unwrapped_iv kek bytes)
