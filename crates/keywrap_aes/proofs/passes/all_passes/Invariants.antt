-- After j turns A and the blocks are those of the first j passes.
use mathlib.Core.Path.{◌≡◌}
use lib.ListN.{length}
use Rattle.rfc3394.specs.Rfc3394.{high, Registers}
use Rattle.keywrap_aes.specs.Internal.{walks}
use Rattle.keywrap_aes.proofs.passes.all_passes.Given as goal

abbrev pub invariant-loop-j : goal.invariant-loop-j
invariant-loop-j g l = record {
  same_length : length l.b ≡ length l.initial.b;
  so_far : ◌≡◌ {A = Registers} (high l.x, l.b) (walks (g.W.Way.step l.ks) g.W.Way.place l.n l.j (high l.initial.x, l.initial.b));
}
