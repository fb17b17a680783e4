-- HMAC-SHA-1: RFC 2104's HMAC (Rfc2104.antt of the crate rfc2104), with SHA-1 as the hash.
use Rattle.std.specs.Prelude.{List, ℕ}
use Rattle.rfc2104.specs.Rfc2104.{hmac}
use Rattle.fips180.specs.Sha1.{sha1}

unfoldable pub hmac_sha1 : List ℕ → List ℕ → List ℕ
hmac_sha1 = hmac sha1
