-- The keys of EAP-AKA': RFC 5448, section 3.3, as document 02 reads it (request 11). Its PRF' (section 3.4.1) is prf+ with HMAC-SHA-256. Its ranges
-- count bits; here they count bytes.
use Rattle.std.specs.Prelude.{ℕ, ◌&&◌, List, ◌++◌, eqb, length, take, drop}
use Rattle.slices.specs.Ascii.{ascii}
use Rattle.refusal.specs.Checks.{Check, bare, unless, ◌and_then◌, within, check6}
use Rattle.refusal.specs.Answers.{Answer, answer_to, buffer_after}
use Rattle.hmac.specs.Rfc2104.{hmac_sha256}
use Rattle.prf_plus.specs.PrfPlus.{prf_plus_of}
use Rattle.aka_keys.specs.Ts33402.{ck_prime, ik_prime}

-- the key of the expansion: IK', then CK'
unfoldable pub expansion_key : List ℕ → List ℕ → List ℕ → List ℕ → List ℕ
expansion_key ck ik name sqnXorAk = ik_prime ck ik name sqnXorAk ++ ck_prime ck ik name sqnXorAk

-- its text S: "EAP-AKA'", then the identity
unfoldable pub expansion_text : List ℕ → List ℕ
expansion_text identity = ascii "EAP-AKA'" ++ identity

-- the RFC's MK: 208 bytes, of which the five keys are parts
unfoldable pub key_material : List ℕ → List ℕ → List ℕ → List ℕ → List ℕ → List ℕ
key_material ck ik name sqnXorAk identity = prf_plus_of hmac_sha256 (expansion_key ck ik name sqnXorAk) (expansion_text identity) 208

-- the five keys by their places in MK: MK[0..127], MK[128..383], MK[384..639], MK[640..1151], MK[1152..1663]
unfoldable pub k_encr_of : List ℕ → List ℕ
k_encr_of mk = take 16 mk

unfoldable pub k_aut_of : List ℕ → List ℕ
k_aut_of mk = take 32 (drop 16 mk)

unfoldable pub k_re_of : List ℕ → List ℕ
k_re_of mk = take 32 (drop 48 mk)

unfoldable pub msk_of : List ℕ → List ℕ
msk_of mk = take 64 (drop 80 mk)

unfoldable pub emsk_of : List ℕ → List ℕ
emsk_of mk = take 64 (drop 144 mk)

-- 43: CK, IK or SQN of wrong length
abbrev pub check43 : List ℕ → List ℕ → List ℕ → Check
check43 ck ik sqnXorAk = unless (eqb (length ck) 16 && eqb (length ik) 16 && eqb (length sqnXorAk) 6) (bare 43)

-- 44: a name over 1,016 bytes, the most that AT_KDF_INPUT holds; an empty one is allowed
abbrev pub check44 : List ℕ → Check
check44 name = unless (within 0 1016 (length name)) (bare 44)

-- 45: an identity not 1 to 255 bytes
abbrev pub check45 : List ℕ → Check
check45 identity = unless (within 1 255 (length identity)) (bare 45)

-- the order of the tests: 43, 44, 45, 6
unfoldable pub input_check : List ℕ → List ℕ → List ℕ → List ℕ → List ℕ → Check
input_check ck ik name sqnXorAk identity = check43 ck ik sqnXorAk and_then check44 name and_then check45 identity

unfoldable pub aka_check : List ℕ → List ℕ → List ℕ → List ℕ → List ℕ → ℕ → Check
aka_check ck ik name sqnXorAk identity room = input_check ck ik name sqnXorAk identity and_then check6 208 room

-- what the call answers: 208, or the first refusal
unfoldable pub aka_answer : List ℕ → List ℕ → List ℕ → List ℕ → List ℕ → ℕ → Answer
aka_answer ck ik name sqnXorAk identity room = answer_to (aka_check ck ik name sqnXorAk identity room) 208

-- what it leaves in the output buffer: its 208 bytes and then what stood there, or all that stood there
unfoldable pub aka_buffer : List ℕ → List ℕ → List ℕ → List ℕ → List ℕ → List ℕ → List ℕ
aka_buffer ck ik name sqnXorAk identity buffer = buffer_after (aka_check ck ik name sqnXorAk identity (length buffer)) 208 (key_material ck ik name sqnXorAk identity) buffer
