-- RFC 2104 (HMAC: Keyed-Hashing for Message Authentication), section 2, over any hash whose blocks have 64 bytes (the RFC's B).
-- A byte string is a list of numbers.
use Rattle.std.specs.Prelude.{ℕ, ◌-◌, cond, List, ◌++◌, map, leb, length, replicate}
use Rattle.std.specs.Int.Bits.{bit_xor}

-- the byte that ipad repeats, and the one that opad repeats
abbrev pub ipad : ℕ
ipad = 0x36

abbrev pub opad : ℕ
opad = 0x5c

-- steps 2 and 5: a block XOR a byte repeated
unfoldable pub masked : List ℕ → ℕ → List ℕ
masked block pad = map (λ x. bit_xor x pad) block

module _ (hash : List ℕ → List ℕ) where
  -- a key over 64 bytes is hashed first; what comes of it is used as the key
  unfoldable pub short_key : List ℕ → List ℕ
  short_key key = cond (leb (length key) 64) key (hash key)

  -- step 1: the key with zeros after it, to a block
  unfoldable pub key_block : List ℕ → List ℕ
  key_block key = short_key key ++ replicate (64 - length (short_key key)) 0

  -- steps 2 to 7: H(K XOR opad, H(K XOR ipad, text)), where the comma joins
  unfoldable pub hmac : List ℕ → List ℕ → List ℕ
  hmac key message = hash (masked (key_block key) opad ++ hash (masked (key_block key) ipad ++ message))
