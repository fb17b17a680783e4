-- SHA-1 after a block, by the hash in progress of FIPS 180-4 (Stream.antt of the crate fips180). `AfterBlockIsHash` of that crate's Statements.antt
-- says that it is the standard's hash.
use Rattle.std.specs.Prelude.{ℕ, List}
use Rattle.fips180.specs.Sha1.{compress, digest}
use Rattle.fips180.specs.Stream.{started_after, absorbed_by, finished_by}

-- the digest of a block, of which only the hash value is given, and of a message after it
abbrev pub digest_after : List ℕ → List ℕ → List ℕ
digest_after value message = finished_by compress digest (absorbed_by compress (started_after value) message)
