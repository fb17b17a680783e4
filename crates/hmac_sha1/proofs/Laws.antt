-- HMAC-SHA-1 by the hash values after a key's two blocks is RFC 2104's (`KeptValuesGiveMac` of rfc2104), and a MAC has 20 bytes.
use Prim.Native.Nat.{ℕ}
use mathlib.Core.Path.{◌≡◌, refl}
use mathlib.Core.List.{List}
use lib.ListN.{length}
use Rattle.rfc2104.specs.Rfc2104.{ipad, opad, hmac}
use Rattle.rfc2104.proofs.Laws as laws
use Rattle.fips180.specs.Hash.{hash_by}
use Rattle.fips180.specs.Sha1.{sha1, compress, H0, digest}
use Rattle.fips180.proofs.Digests.{sha1_fits}
use Rattle.hmac_sha1.specs.Rfc2104.{hmac_sha1}
use Rattle.hmac_sha1.specs.Keyed.{key_value, mac_by_values}

pub kept_values_give_mac : (key message : List ℕ) → mac_by_values (key_value key ipad) (key_value key opad) message ≡ hmac_sha1 key message
unfolding hmac_sha1 sha1
kept_values_give_mac = laws.kept_values_give_mac compress H0 digest sha1_fits

-- a digest has 20 bytes
pub sha1-length : (m : List ℕ) → length (sha1 m) ≡ 20
unfolding sha1 hash_by digest
sha1-length m = refl

pub hmac_sha1-length : (key message : List ℕ) → length (hmac_sha1 key message) ≡ 20
unfolding hmac_sha1 hmac
hmac_sha1-length key message = sha1-length _
