-- This serves contracts between crates only.
-- HMAC by the hash values after a key's two blocks (RFC 2104, section 4: these are kept, and each message begins with them), over any
-- compression of blocks of 64 bytes, first hash value and writing of the digest. `KeptValuesGiveMac` of Statements.antt says that it is
-- section 2's.
use Rattle.std.specs.Prelude.{ℕ, List}
use Rattle.fips180.specs.Hash.{hash_by}
use Rattle.fips180.specs.Stream.{started_after, absorbed_by, finished_by}
use Rattle.rfc2104.specs.Rfc2104.{masked, key_block}

-- the hash value after a key's block XOR a byte repeated, which is ipad's or opad's
unfoldable pub key_value_by : (List ℕ → List ℕ → List ℕ) → List ℕ → (List ℕ → List ℕ) → List ℕ → ℕ → List ℕ
key_value_by compress first written key pad = compress first (masked (key_block (hash_by compress first written) key) pad)

module _ (compress : List ℕ → List ℕ → List ℕ) (written : List ℕ → List ℕ) where
  -- the hash of a block, of which only the hash value is given, and of what comes after it
  unfoldable pub hash_after_by : List ℕ → List ℕ → List ℕ
  hash_after_by value rest = finished_by compress written (absorbed_by compress (started_after value) rest)

  -- the MAC of a message from the two hash values: the outer hash of the inner hash
  unfoldable pub mac_by_values_by : List ℕ → List ℕ → List ℕ → List ℕ
  mac_by_values_by inner outer message = hash_after_by outer (hash_after_by inner message)
