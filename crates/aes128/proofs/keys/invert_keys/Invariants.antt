-- The round keys from 1 to i - 1 are inverted.
use mathlib.Core.Path.{◌≡◌}
use Prim.Native.Nat.{◌-◌}
use Rattle.fips197.specs.Cipher.{kept_first}
use Rattle.aes128.proofs.keys.invert_keys.Given as goal

abbrev pub invariant-loop-i : goal.invariant-loop-i
invariant-loop-i l = l.ks ≡ kept_first (l.i - 1) l.initial.ks
