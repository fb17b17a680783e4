-- After k turns A and the blocks are those of the first k steps.
use mathlib.Core.Path.{◌≡◌}
use mathlib.Core.List.{[], ◌∷◌}
use lib.ListN.{length}
use Rattle.rfc3394.specs.Rfc3394.{high, Registers}
use Rattle.keywrap_aes.specs.Internal.{walk}
use Rattle.keywrap_aes.proofs.passes.pass.Given as goal

abbrev pub invariant-loop-k : goal.invariant-loop-k
invariant-loop-k g l = record {
  same_length : length l.b ≡ length l.initial.b;
  so_far : ◌≡◌ {A = Registers} (high (l.x0 ∷ l.x1 ∷ []), l.b) (walk (g.W.Way.step l.ks) (g.W.Way.place l.n) l.c l.k (high (l.initial.x0 ∷ l.initial.x1 ∷ []), l.initial.b));
}
