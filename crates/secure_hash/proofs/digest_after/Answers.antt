-- `secure_hash::digest_after` meets its contract: the text is absorbed after the block.
use Rattle.std.proofs.Common.{ap, ◌∙◌, arith}
use Rattle.fips180.specs.Stream.{Progress, absorbed_by, finished_by}
use Rattle.slices.specs.Parts.{joined}
use Rattle.secure_hash.proofs.digest_after.Goals as goal

pub after-hash-requires : goal.after-hash-requires
after-hash-requires g c = let t = g.met.H.Hash.sizes_fit.0 in omega arith

pub returns : goal.returns
returns g c =
    let h = g.H.Hash in
    let finished = finished_by h.compress h.written in
    c.last_digest.ensures ∙ ap finished (c.absorb_parts.ensures ∙ ap (λ (s : Progress). absorbed_by h.compress s (joined c.args.parts.now)) c.after-hash.ensures)
