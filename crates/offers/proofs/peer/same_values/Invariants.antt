-- Two lists of one length are the same where the values before index i were, and where what is left is.
use Rattle.std.proofs.Common.{◌≡◌, ◌&&◌, drop, length}
use Rattle.slices.specs.Same.{same_list}
use Rattle.offers.proofs.peer.same_values.Given as goal

abbrev pub invariant-loop-i : goal.invariant-loop-i
invariant-loop-i l = record {
  same_length : length l.s ≡ length l.t;
  left : same_list l.s l.t ≡ (l.same && same_list (drop l.i l.s) (drop l.i l.t));
}
