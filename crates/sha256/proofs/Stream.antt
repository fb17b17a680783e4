-- The digest of SHA-256's hash in progress is the standard's hash, and it has 32 bytes.
use Rattle.std.proofs.Common.{◌≡◌, ℕ, List, length, refl}
use Rattle.fips180.specs.Hash.{hash_by}
use Rattle.fips180.proofs.Stream.{stream_is_hash}
use Rattle.fips180.specs.Sha256.{compress, H0, digest, sha256}
use Rattle.sha256.specs.Stream.{started, absorbed, finished}

pub digest_law : (m : List ℕ) → finished (absorbed started m) ≡ sha256 m
unfolding sha256
digest_law = stream_is_hash compress H0 digest

pub sha256-length : (m : List ℕ) → length (sha256 m) ≡ 32
unfolding sha256 hash_by digest
sha256-length m = refl
