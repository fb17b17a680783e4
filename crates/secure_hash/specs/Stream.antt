-- This serves contracts between crates only.
-- The hash in progress of FIPS 180-4 (Stream.antt of the crate fips180), by the struct's fields.
use Rattle.std.specs.Prelude.{ℕ, List}
use Rattle.fips180.specs.Stream as Stream
use Rattle.secure_hash.specs.declared.Progress.{Progress}

-- the struct by its fields
abbrev pub progress : {H : _} {words bytes : _} → Progress H words bytes → Stream.Progress
progress s = record { value = s.value; block = s.block; count = s.count }

abbrev pub parts : List ℕ → List ℕ → ℕ → Stream.Progress
parts h b n = record { value = h; block = b; count = n }
