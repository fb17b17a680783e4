use Rattle.std.proofs.Common.{◌≡◌, ◌+◌, ◌≤◌, length}
use Rattle.bundle_rules.specs.Bundle.{packed, frames_check}
use Rattle.bundle_contents.proofs.bodies.Bodies.check_and_count.Given as goal

abbrev pub invariant-loop-left : goal.invariant-loop-left
invariant-loop-left l = record {
  tests : frames_check (packed l.bytes) ≡ frames_check (packed l.left);
  counted : l.count + length (packed l.left) ≡ length (packed l.bytes);
  few : l.count + length l.left ≤ length l.bytes;
}

abbrev pub decreases-loop-left : goal.decreases-loop-left
decreases-loop-left l = length l.left
