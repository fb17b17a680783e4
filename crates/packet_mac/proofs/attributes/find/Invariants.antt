-- What was met up to the walk's place, and what is left.
use Rattle.std.proofs.Common.{◌≡◌}
use Rattle.packet_mac.proofs.attributes.Finding.{WalkedTo}
use Rattle.packet_mac.proofs.attributes.find.Given as goal

abbrev pub invariant-loop-at : goal.invariant-loop-at
invariant-loop-at l = (l.at-iterator.packet.now ≡ l.packet) × WalkedTo l.attribute_type l.packet l.at-iterator.at l.seen
