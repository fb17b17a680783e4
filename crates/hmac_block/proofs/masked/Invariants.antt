use Rattle.std.proofs.Common.{◌≡◌, ◌*◌, ◌++◌, take, drop}
use Rattle.rfc2104.specs.Rfc2104 as rfc
use Rattle.hmac_block.proofs.masked.Given as goal

-- the first j words are those of the masked block
abbrev pub invariant-loop-j : goal.invariant-loop-j
invariant-loop-j l = l.r ≡ take (4 * l.j) (rfc.masked l.fn.block l.pad) ++ drop (4 * l.j) l.fn.block
