use Rattle.std.proofs.Common.{◌≡◌, drop}
use Rattle.area_format.specs.Area.{zeros}
use Rattle.area.proofs.reader.zeros.Given as goal

abbrev pub invariant-loop-byte : goal.invariant-loop-byte
invariant-loop-byte l = zeros l.bytes ≡ zeros (drop l.byte-index l.bytes)
