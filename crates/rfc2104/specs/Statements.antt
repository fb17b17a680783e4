-- What is proved of HMAC's definitions.
use Rattle.std.specs.Prelude.{◌≡◌, List, ℕ, ◌≤◌, length}
use Rattle.fips180.specs.Hash.{hash_by}
use Rattle.rfc2104.specs.Rfc2104.{ipad, opad, hmac}
use Rattle.rfc2104.specs.Keyed.{key_value_by, mac_by_values_by}

module _ (compress : List ℕ → List ℕ → List ℕ) (first : List ℕ) (written : List ℕ → List ℕ) where
  -- RFC 2104, section 4: the MAC from the two hash values that are kept of a key is section 2's, for a hash whose digest fits in a block.
  -- `kept_values_give_mac` of proofs/Laws.antt
  abbrev pub KeptValuesGiveMac : Type 0
  KeptValuesGiveMac =
      ((value : List ℕ) → length (written value) ≤ 64) → (key message : List ℕ)
      → mac_by_values_by compress written (key_value_by compress first written key ipad) (key_value_by compress first written key opad) message
      ≡ hmac (hash_by compress first written) key message
