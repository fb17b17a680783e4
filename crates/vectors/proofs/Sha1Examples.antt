-- NIST's example of SHA-1, computed from the definitions.
use mathlib.Core.Path.{refl}
use Rattle.fips180.specs.Hash.{padding, padded, schedule_by, blocks_by, hash_by}
use Rattle.fips180.specs.Sha1.{H0, next_w, word_at, W, T, step, round, rounds, sums, compress, digest, sha1}
use Rattle.vectors.specs.Sha1Examples.{OneBlock}

pub one_block : OneBlock
unfolding W schedule_by word_at next_w rounds round step T H0 padding padded sums compress blocks_by digest hash_by sha1
one_block = refl
