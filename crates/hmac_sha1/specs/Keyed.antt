-- HMAC-SHA-1 by the hash values after a key's two blocks (Keyed.antt of the crate rfc2104). `KeptValuesGiveMac` of that crate's
-- Statements.antt says that it is RFC 2104's.
use Rattle.std.specs.Prelude.{List, ℕ}
use Rattle.rfc2104.specs.Keyed.{key_value_by, mac_by_values_by}
use Rattle.fips180.specs.Sha1.{compress, H0, digest}

-- the hash value after a key's block XOR a byte repeated, which is ipad's or opad's
abbrev pub key_value : List ℕ → ℕ → List ℕ
key_value = key_value_by compress H0 digest

-- the MAC of a message from the two hash values
abbrev pub mac_by_values : List ℕ → List ℕ → List ℕ → List ℕ
mac_by_values = mac_by_values_by compress digest
