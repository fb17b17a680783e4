-- The round keys below i stand in their places, and the constant is the next one's.
use mathlib.Core.Path.{◌≡◌}
use mathlib.Core.List.{[]}
use Prim.Native.Nat.{ℕ, ◌-◌, ◌<◌}
use lib.ListN.{length, get_or}
use Rattle.fips197.specs.KeyExpansion.{rcon, round_key}
use Rattle.aes128.proofs.keys.expand_key.Given as goal

abbrev pub invariant-loop-i : goal.invariant-loop-i
invariant-loop-i l = record {
  eleven : length l.ks ≡ 11;
  next : l.constant ≡ rcon (l.i - 1);
  so_far : (n : ℕ) → n < l.i → get_or l.ks n [] ≡ round_key l.fn.k n;
}
