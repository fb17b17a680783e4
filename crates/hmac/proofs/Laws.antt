-- HMAC-SHA-256 by the hash values after a key's two blocks is RFC 2104's (`KeptValuesGiveMac` of rfc2104), and a MAC has 32 bytes.
use Prim.Native.Nat.{ℕ}
use mathlib.Core.Path.{◌≡◌, refl, ap, ◌∙◌}
use mathlib.Core.List.{List, ◌++◌}
use lib.ListN.{length}
use Rattle.fips180.specs.Stream.{Progress, started_after}
use Rattle.rfc2104.specs.Rfc2104.{masked, key_block, ipad, opad, hmac}
use Rattle.rfc2104.proofs.Laws as laws
use Rattle.fips180.specs.Sha256.{sha256, compress, H0, digest}
use Rattle.fips180.proofs.Digests.{sha256_fits}
use Rattle.sha256.specs.Stream.{absorbed, finished}
use Rattle.sha256.proofs.Stream.{sha256-length}
use Rattle.hmac.specs.Rfc2104.{hmac_sha256}
use Rattle.hmac.specs.Keyed.{key_value, hash_after, mac_by_values}

pub kept_values_give_mac : (key message : List ℕ) → mac_by_values (key_value key ipad) (key_value key opad) message ≡ hmac_sha256 key message
unfolding hmac_sha256 sha256
kept_values_give_mac = laws.kept_values_give_mac compress H0 digest sha256_fits

pub hmac_sha256-length : (key message : List ℕ) → length (hmac_sha256 key message) ≡ 32
unfolding hmac_sha256 hmac
hmac_sha256-length key message = sha256-length (masked (key_block sha256 key) opad ++ sha256 (masked (key_block sha256 key) ipad ++ message))

-- the MAC of a text from the two hash values of a key: s is the inner hash begun, t the one that has absorbed the text, and r the outer hash of its digest
pub mac-from_values : (key text : List ℕ) {inner outer r : List ℕ} {s t : Progress} → inner ≡ key_value key ipad → outer ≡ key_value key opad
    → s ≡ started_after inner → t ≡ absorbed s text → r ≡ hash_after outer (finished t) → r ≡ hmac_sha256 key text
mac-from_values key text {outer = outer} ei eo es et er =
    laws.mac_by_hashes compress digest outer text es refl (er ∙ ap (λ (u : Progress). hash_after outer (finished u)) et) ∙ (λ i. mac_by_values (ei i) (eo i) text)
    ∙ kept_values_give_mac key text
