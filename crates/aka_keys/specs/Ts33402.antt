-- CK' and IK' from CK and IK: 3GPP TS 33.402, Annex A.2, by the key derivation function of TS 33.220, Annex B.2. Numbers are high byte first.
-- A byte string is a list of numbers.
use Rattle.std.specs.Prelude.{ℕ, List, ◌∷◌, ◌++◌, length, take, drop}
use Rattle.slices.specs.Numbers.{be16}
use Rattle.hmac.specs.Rfc2104.{hmac_sha256}

-- the text S: FC = 20 hex, P0 = the network name, L0 = its length, P1 = SQN xor AK, L1 = its length, 00 06
unfoldable pub prime_text : List ℕ → List ℕ → List ℕ
prime_text name sqnXorAk = 0x20 ∷ (name ++ (be16 (length name) ++ (sqnXorAk ++ be16 6)))

-- the 32 bytes of HMAC-SHA-256 over S, under CK then IK
unfoldable pub prime_keys : List ℕ → List ℕ → List ℕ → List ℕ → List ℕ
prime_keys ck ik name sqnXorAk = hmac_sha256 (ck ++ ik) (prime_text name sqnXorAk)

-- CK' is the first half of them, IK' the second
unfoldable pub ck_prime : List ℕ → List ℕ → List ℕ → List ℕ → List ℕ
ck_prime ck ik name sqnXorAk = take 16 (prime_keys ck ik name sqnXorAk)

unfoldable pub ik_prime : List ℕ → List ℕ → List ℕ → List ℕ → List ℕ
ik_prime ck ik name sqnXorAk = drop 16 (prime_keys ck ik name sqnXorAk)
