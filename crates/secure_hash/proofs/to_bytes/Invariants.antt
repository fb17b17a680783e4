use Rattle.std.proofs.Common.{◌≡◌, ◌*◌}
use Rattle.secure_hash.proofs.Digests.{written}
use Rattle.secure_hash.proofs.to_bytes.Given as goal

-- the first j words are written
abbrev pub invariant-loop-j : goal.invariant-loop-j
invariant-loop-j g l = g.row.BYTES ≡ 4 * g.row.WORDS → l.bytes ≡ written l.words g.row.BYTES l.j
