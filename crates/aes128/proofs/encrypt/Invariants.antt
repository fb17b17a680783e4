-- Before round i the state is that of the i - 1 rounds before it.
use mathlib.Core.Path.{◌≡◌}
use Prim.Native.Nat.{◌-◌}
use Rattle.fips197.specs.Cipher.{rounds}
use Rattle.aes128.specs.Internal.{state_of}
use Rattle.aes128.proofs.encrypt.Given as goal

abbrev pub invariant-loop-i : goal.invariant-loop-i
invariant-loop-i l = state_of l.t ≡ rounds l.ks (l.i - 1) (state_of l.initial.t)
