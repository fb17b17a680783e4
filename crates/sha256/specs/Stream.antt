-- This serves contracts between crates only.
-- The hash in progress of FIPS 180-4 (Stream.antt of the crate fips180), with SHA-256's compression. `StreamIsHash` and `AfterBlockIsHash` of
-- that crate's Statements.antt say that what it comes to is the standard's hash.
use Rattle.std.specs.Prelude.{ℕ, List}
use Rattle.fips180.specs.Stream as Stream
use Rattle.fips180.specs.Stream.{Progress, absorbed_by, finished_by}
use Rattle.fips180.specs.Sha256.{compress, H0, digest}

-- nothing is absorbed yet
abbrev pub started : Progress
started = Stream.started H0

abbrev pub absorbed : Progress → List ℕ → Progress
absorbed = absorbed_by compress

-- the digest of all that was absorbed
abbrev pub finished : Progress → List ℕ
finished = finished_by compress digest
