-- `secure_hash::Progress::last_digest` meets its contract: the digest from the state's parts (`finished-closing` of fips180).
use Rattle.std.proofs.Common.{◌≡◌, ◌^◌, ◌<◌, length, sym, ap, ◌∙◌, rules}
use Rattle.fips180.proofs.Stream.{finished-closing}
use Rattle.secure_hash.specs.Stream.{progress}
use Rattle.secure_hash.proofs.Progress.last_digest.Goals as goal

pub returns : goal.returns
returns g c =
    let h = g.H.Hash in
    let s = c.args.self.now in
    let f : s.count < 2 ^ 64 = search rules in
    let l : length s.block ≡ 64 = search rules in
    c.to_digest.ensures ∙ ap h.written c.close.ensures ∙ sym (finished-closing h.compress h.written (progress s) f l)
