-- `prf_plus::fill` meets its contract: a turn writes as much of the next block as there is room for (proofs/Steps.antt, `next_out`).
use Rattle.std.proofs.Common.{◌≡◌, ℕ, ◌+◌, ◌-◌, ◌*◌, ◌/◌, ◌<◌, ◌≤◌, ◌++◌, List, min, length, take, drop, arith, refl, rules}
use Rattle.slices.specs.Parts.{joined}
use Rattle.hmac.specs.Rfc2104.{hmac_sha256}
use Rattle.hmac.proofs.Laws.{hmac_sha256-length}
use Rattle.prf_plus.specs.PrfPlus.{prf_plus_of, block_count, blocks}
use Rattle.prf_plus.proofs.Parts.{mac_of_input, next_under_key}
use Rattle.prf_plus.proofs.Steps.{next_out}
use Rattle.prf_plus.proofs.fill.Goals as goal

pub loop-i-preserved : goal.loop-i-preserved
loop-i-preserved c =
    let l = c.loop-i in
    let s = c.args in
    let room : s.n ≤ length s.out.now = c.requires.n_in_bounds in
    let same : length l.out ≡ length s.out.now = l.invariant.same in
    let key = s.key.now in
    let text : List ℕ = joined s.text.now in
    let at : ℕ = l.i * 32 in
    let left : at < s.n = omega arith in
    let keyed = c.new-keyed.ensures in
    let full : min s.n at ≡ at = omega arith in
    let written : l.out ≡ take at (blocks hmac_sha256 key text l.i) ++ drop at s.out.now = rw full at l.invariant.written in
    let mac = mac_of_input key _ text (l.i + 1) keyed.inner keyed.outer c.after-inner.ensures c.absorb.ensures c.absorb_parts.ensures c.absorb-in-loop-i.ensures c.finish.ensures in
    let b = next_under_key key text s.out.now l.out l.i c.saturating_sub-before.result at mac (omega arith) (omega arith) written in
    let end : c.min-end.result ≡ min s.n (at + 32) = omega arith in
    let m : ℕ = c.min-end.result - at in
    let next : at + m ≡ min s.n ((l.i + 1) * 32) = omega arith in
    let after = next_out hmac_sha256 hmac_sha256-length key text s.out.now l.out _ c.finish.result _ l.i m at (omega arith) (omega arith) (omega arith) written b c.copy.ensures refl in
    record { same = search rules; written = rw next at after }

pub returns : goal.returns
unfolding prf_plus_of block_count
returns c =
    let l = c.loop-i in
    let s = c.args in
    let e : l.i ≡ (s.n + 31) / 32 = omega arith in
    let f : min s.n (l.i * 32) ≡ s.n = omega arith in
    rw (← e, ← f) l.invariant.written
