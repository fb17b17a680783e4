-- `secure_hash::digest` meets its contract: the whole blocks from the message itself, the bytes after them from a block (`at_once` of fips180).
use Rattle.std.proofs.Common.{◌^◌, ◌<◌, ◌/◌, length, ap, ◌∙◌, arith}
use Rattle.fips180.specs.Hash.{blocks_by}
use Rattle.fips180.proofs.Absorbing.{at_once}
use Rattle.secure_hash.proofs.digest.Goals as goal

pub first_value-value-requires : goal.first_value-value-requires
first_value-value-requires g c = let t = g.met.H.Hash.sizes_fit.0 in omega arith

pub compress_blocks-requires : goal.compress_blocks-requires
compress_blocks-requires g c = let t = g.met.H.Hash.sizes_fit.0 in omega arith

pub close-requires : goal.close-requires
close-requires g c = let t = g.met.H.Hash.sizes_fit.0 in (omega arith, c.begin.array_long)

pub to_digest-requires : goal.to_digest-requires
to_digest-requires g c = let t = g.met.H.Hash.sizes_fit.0 in omega arith

pub returns : goal.returns
returns g c =
    let h = g.H.Hash in
    let m = c.args.message.now in
    let f : length m < 2 ^ 64 = omega arith in
    let all = c.compress_blocks.ensures ∙ ap (λ v. blocks_by h.compress (length m / 64) v m) c.first_value-value.ensures in
    at_once h.compress m h.first h.written f c.begin.ensures all (c.to_digest.ensures ∙ ap h.written c.close.ensures)
