use Rattle.std.proofs.Common.{◌≡◌, ◌*◌, ◌++◌, min, length, take, drop}
use Rattle.slices.specs.Parts.{joined}
use Rattle.hmac.specs.Rfc2104.{hmac_sha256}
use Rattle.prf_plus.specs.PrfPlus.{blocks}
use Rattle.prf_plus.proofs.fill.Given as goal

-- i blocks stand at the start of the buffer, the last cut at n, and after them what stood there
abbrev pub invariant-loop-i : goal.invariant-loop-i
invariant-loop-i l = record {
  same : length l.out ≡ length l.initial.out;
  written : l.out ≡ take (min l.n (l.i * 32)) (blocks hmac_sha256 l.key (joined l.text) l.i) ++ drop (min l.n (l.i * 32)) l.initial.out;
}
