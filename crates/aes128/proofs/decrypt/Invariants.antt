-- What is left of the rounds below i comes to what all nine come to.
use mathlib.Core.Path.{◌≡◌}
use Prim.Native.Nat.{◌-◌, ◌≤◌}
use Rattle.fips197.specs.Cipher.{eq_inv_rounds}
use Rattle.aes128.specs.Internal.{state_of}
use Rattle.aes128.proofs.decrypt.Given as goal

abbrev pub invariant-loop-i : goal.invariant-loop-i
invariant-loop-i l = record {
  low : 1 ≤ l.i;
  left : eq_inv_rounds l.ks (l.i - 1) (state_of l.t) ≡ eq_inv_rounds l.ks 9 (state_of l.initial.t);
}
