-- The re-authentication root key of a domain, the rRK: RFC 5296, section 4.1, as document 02 reads it (request 6). Its parent, the domain root key,
-- is a request under the EMSK: `for_domain` of the crate requests' specs/Requests.antt.
use Rattle.std.specs.Prelude.{ℕ, List, ◌∷◌, ◌++◌, eqb, length}
use Rattle.slices.specs.Numbers.{be16}
use Rattle.refusal.specs.Checks.{Check, bare, unless, ◌and_then◌, check6}
use Rattle.refusal.specs.Answers.{Answer, answer_to, buffer_after}
use Rattle.labels.specs.FixedLabels.{rrk_label}
use Rattle.hmac.specs.Rfc2104.{hmac_sha256}
use Rattle.prf_plus.specs.PrfPlus.{prf_plus_of}

-- its text S: the label, a zero byte, and the length as two bytes
unfoldable pub rrk_text : List ℕ
rrk_text = rrk_label ++ (0 ∷ be16 64)

-- 1: here for a parent not of 64 bytes
abbrev pub parent_check : List ℕ → Check
parent_check dsrk = unless (eqb (length dsrk) 64) (bare 1)

-- the order of its tests: 1, 6
unfoldable pub rrk_check : List ℕ → ℕ → Check
rrk_check dsrk room = parent_check dsrk and_then check6 64 room

-- the rRK: 64 bytes of prf+, with the domain root key as K
unfoldable pub rrk_key : List ℕ → List ℕ
rrk_key dsrk = prf_plus_of hmac_sha256 dsrk rrk_text 64

-- what the call answers: 64, or the first refusal
unfoldable pub rrk_answer : List ℕ → ℕ → Answer
rrk_answer dsrk room = answer_to (rrk_check dsrk room) 64

-- what it leaves in the output buffer: its 64 bytes and then what stood there, or all that stood there
unfoldable pub rrk_buffer : List ℕ → List ℕ → List ℕ
rrk_buffer dsrk buffer = buffer_after (rrk_check dsrk (length buffer)) 64 (rrk_key dsrk) buffer
