-- NIST's examples, computed from the definitions.
use mathlib.Core.Path.{refl}
use Rattle.fips180.specs.Hash.{padding, padded, schedule_by, blocks_by, hash_by}
use Rattle.fips180.specs.Sha256.{H0, next_w, word_at, W, T1, T2, round, rounds, sums, compress, digest, sha256}
use Rattle.vectors.specs.Fips180Examples.{OneBlock, TwoBlocks}

pub one_block : OneBlock
unfolding W schedule_by word_at next_w rounds round T1 T2 H0 padding padded sums compress blocks_by digest hash_by sha256
one_block = refl

pub two_blocks : TwoBlocks
unfolding W schedule_by word_at next_w rounds round T1 T2 H0 padding padded sums compress blocks_by digest hash_by sha256
two_blocks = refl
