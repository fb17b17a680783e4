-- `secure_hash::digest_of_parts` meets its contract: the digest of a hash in progress is the standard's (`StreamIsHash` of fips180).
use Rattle.std.proofs.Common.{ap, ◌∙◌, arith}
use Rattle.fips180.specs.Stream.{Progress, absorbed_by, finished_by}
use Rattle.fips180.proofs.Stream.{stream_is_hash}
use Rattle.slices.specs.Parts.{joined}
use Rattle.secure_hash.proofs.digest_of_parts.Goals as goal

pub new-all-requires : goal.new-all-requires
new-all-requires g c = let t = g.met.H.Hash.sizes_fit.0 in omega arith

pub returns : goal.returns
returns g c =
    let h = g.H.Hash in
    let text = joined c.args.parts.now in
    let finished = finished_by h.compress h.written in
    c.last_digest.ensures ∙ ap finished (c.absorb_parts.ensures ∙ ap (λ (s : Progress). absorbed_by h.compress s text) c.new-all.ensures)
    ∙ stream_is_hash h.compress h.first h.written text
