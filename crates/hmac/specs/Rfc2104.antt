-- HMAC-SHA-256: RFC 2104's HMAC (Rfc2104.antt of the crate rfc2104), with SHA-256 as the hash.
use Rattle.std.specs.Prelude.{List, ℕ}
use Rattle.rfc2104.specs.Rfc2104.{hmac}
use Rattle.fips180.specs.Sha256.{sha256}

unfoldable pub hmac_sha256 : List ℕ → List ℕ → List ℕ
hmac_sha256 = hmac sha256
