-- `keyed_hash::key_block` meets its contract: a key that fits in a block stands there, and of a longer one its digest.
use Rattle.std.proofs.Common.{◌<◌, ◌≤◌, length, arith}
use Rattle.fips180.specs.Hash.{hash_by}
use Rattle.rfc2104.proofs.Blocks.{key_short, key_long}
use Rattle.hmac_block.proofs.Filling.{filled_short}
use Rattle.keyed_hash.proofs.Digests.{bytes_small, short_digest}
use Rattle.keyed_hash.proofs.key_block.Goals as goal

pub returns-then-key-BLOCK : goal.returns-then-key-BLOCK
returns-then-key-BLOCK g c =
    let h = g.H.Hash in
    let key = c.args.key.now in
    let short : length key ≤ 64 = omega arith in
    key_short (hash_by h.compress h.first h.written) key short (filled_short key short c.filled.ensures)

pub digest-short-requires : goal.digest-short-requires
digest-short-requires g c = bytes_small g.row.BYTES g.met.H.Hash.sizes_fit.1

pub shared_whole_as_slice-filled : goal.shared_whole_as_slice-filled
shared_whole_as_slice-filled g c = bytes_small g.row.BYTES g.met.H.Hash.sizes_fit.1

pub returns : goal.returns
returns g c =
    let h = g.H.Hash in
    let key = c.args.key.now in
    let few = short_digest h.compress h.first h.written g.met.H.Hash.digest_fits key c.digest-short.ensures in
    let long : 64 < length key = omega arith in
    key_long (hash_by h.compress h.first h.written) key long c.digest-short.ensures (filled_short c.digest-short.result few c.filled-2.ensures)
