-- The handover keys of source document 003, sections 4.2 and 4.3, as document 02 reads it (request 2): R0-Key, R1-Key and R0Name, and the tests of
-- their calls. AD-ID and AN-ID are the identifiers of an access domain and of an access node, SPA is the supplicant's link layer address.
use Rattle.std.specs.Prelude.{ℕ, List, ◌++◌, eqb, length, take}
use Rattle.slices.specs.Ascii.{ascii}
use Rattle.refusal.specs.Checks.{Check, bare, unless, ◌and_then◌, check6}
use Rattle.refusal.specs.Answers.{Answer, answer_to, buffer_after}
use Rattle.fips180.specs.Sha256.{sha256}
use Rattle.hmac_sha1.specs.Rfc2104.{hmac_sha1}
use Rattle.handover_rules.specs.Kdf.{kdf_input, kdf}

-- the labels. The draft's formulas have a capital D and its letter lists a small one; document 02 lets the letter lists decide
unfoldable pub r0_label : List ℕ
r0_label = ascii "R0 Key derivation"

unfoldable pub r1_label : List ℕ
r1_label = ascii "R1 Key derivation"

-- the context of an R0-Key: AD-ID || SPA, and of an R1-Key: AD-ID || AN-ID || SPA
abbrev pub r0_context : List ℕ → List ℕ → List ℕ
r0_context ad spa = ad ++ spa

abbrev pub r1_context : List ℕ → List ℕ → List ℕ → List ℕ
r1_context ad an spa = ad ++ (an ++ spa)

-- K of an R0-Key: the rRK truncated to 256 bits
abbrev pub r0_root : List ℕ → List ℕ
r0_root rrk = take 32 rrk

-- what iteration i of each key's derivation hands to HMAC-SHA-1
unfoldable pub r0_input : List ℕ → List ℕ → ℕ → List ℕ
r0_input ad spa i = kdf_input r0_label (r0_context ad spa) 256 i

unfoldable pub r1_input : List ℕ → List ℕ → List ℕ → ℕ → List ℕ
r1_input ad an spa i = kdf_input r1_label (r1_context ad an spa) 256 i

-- R0-Key = KDF-256(rRK, "R0 Key derivation", AD-ID || SPA)
unfoldable pub r0_key : List ℕ → List ℕ → List ℕ → List ℕ
r0_key rrk ad spa = kdf hmac_sha1 (r0_root rrk) r0_label (r0_context ad spa) 256

-- R1-Key = KDF-256(R0-Key, "R1 Key derivation", AD-ID || AN-ID || SPA)
unfoldable pub r1_key : List ℕ → List ℕ → List ℕ → List ℕ → List ℕ
r1_key r0 ad an spa = kdf hmac_sha1 r0 r1_label (r1_context ad an spa) 256

-- R0Name = Truncate-128(SHA-256(R0-Key || "R0 Key Name" || AD-ID || SPA))
unfoldable pub r0_name : List ℕ → List ℕ → List ℕ → List ℕ
r0_name r0 ad spa = take 16 (sha256 (r0 ++ (ascii "R0 Key Name" ++ (ad ++ spa))))

-- 33: an rRK not 64 or an R0-Key not 32 bytes
abbrev pub check33 : ℕ → List ℕ → Check
check33 n key = unless (eqb (length key) n) (bare 33)

-- 34: an AD-ID or AN-ID not 16 or an SPA not 6 bytes
abbrev pub check34 : ℕ → List ℕ → Check
check34 n id = unless (eqb (length id) n) (bare 34)

-- the order of the tests: 33, 34, 6. The keys have 32 bytes, and the name has 16
unfoldable pub r0_check : List ℕ → List ℕ → List ℕ → ℕ → Check
r0_check rrk ad spa room = check33 64 rrk and_then check34 16 ad and_then check34 6 spa and_then check6 32 room

unfoldable pub r1_check : List ℕ → List ℕ → List ℕ → List ℕ → ℕ → Check
r1_check r0 ad an spa room = check33 32 r0 and_then check34 16 ad and_then check34 16 an and_then check34 6 spa and_then check6 32 room

unfoldable pub r0_name_check : List ℕ → List ℕ → List ℕ → ℕ → Check
r0_name_check r0 ad spa room = check33 32 r0 and_then check34 16 ad and_then check34 6 spa and_then check6 16 room

-- what each call answers: the count of its bytes, or the first refusal
unfoldable pub r0_answer : List ℕ → List ℕ → List ℕ → ℕ → Answer
r0_answer rrk ad spa room = answer_to (r0_check rrk ad spa room) 32

unfoldable pub r1_answer : List ℕ → List ℕ → List ℕ → List ℕ → ℕ → Answer
r1_answer r0 ad an spa room = answer_to (r1_check r0 ad an spa room) 32

unfoldable pub r0_name_answer : List ℕ → List ℕ → List ℕ → ℕ → Answer
r0_name_answer r0 ad spa room = answer_to (r0_name_check r0 ad spa room) 16

-- what it leaves in the output buffer: its bytes and then what stood there, or all that stood there
unfoldable pub r0_buffer : List ℕ → List ℕ → List ℕ → List ℕ → List ℕ
r0_buffer rrk ad spa buffer = buffer_after (r0_check rrk ad spa (length buffer)) 32 (r0_key rrk ad spa) buffer

unfoldable pub r1_buffer : List ℕ → List ℕ → List ℕ → List ℕ → List ℕ → List ℕ
r1_buffer r0 ad an spa buffer = buffer_after (r1_check r0 ad an spa (length buffer)) 32 (r1_key r0 ad an spa) buffer

unfoldable pub r0_name_buffer : List ℕ → List ℕ → List ℕ → List ℕ → List ℕ
r0_name_buffer r0 ad spa buffer = buffer_after (r0_name_check r0 ad spa (length buffer)) 16 (r0_name r0 ad spa) buffer
