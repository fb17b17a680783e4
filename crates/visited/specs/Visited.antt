-- The visited-domain keys under a VRK and under a VMSK (source document 001, sections 4.2 and 5.1; document 01, "Visited keys"). The VRK
-- itself is a request under the EMSK: `for_vrk` of the crate requests' specs/Requests.antt.
use Rattle.std.specs.Prelude.{ℕ, List, ◌++◌, length}
use Rattle.refusal.specs.Checks.{Check, ◌and_then◌, check1, check6}
use Rattle.refusal.specs.Answers.{Answer, answer_to, buffer_after}
use Rattle.labels.specs.FixedLabels.{visited_reauth_label}
use Rattle.labels.specs.Checks.{check7, check8}
use Rattle.hmac.specs.Rfc2104.{hmac_sha256}
use Rattle.prf_plus.specs.PrfPlus.{prf_plus_of}

-- the text S of a VMSK: server ID then domain, with no length
unfoldable pub vmsk_text : List ℕ → List ℕ → List ℕ
vmsk_text server domain = server ++ domain

-- the order of its tests: 1, 7, 8, 6
unfoldable pub vmsk_check : List ℕ → List ℕ → List ℕ → ℕ → Check
vmsk_check vrk server domain room = check1 vrk and_then check7 server and_then check8 domain and_then check6 64 room

-- the VMSK: 64 bytes of prf+, with the VRK as K
unfoldable pub vmsk_key : List ℕ → List ℕ → List ℕ → List ℕ
vmsk_key vrk server domain = prf_plus_of hmac_sha256 vrk (vmsk_text server domain) 64

-- what the call answers: 64, or the first refusal
unfoldable pub vmsk_answer : List ℕ → List ℕ → List ℕ → ℕ → Answer
vmsk_answer vrk server domain room = answer_to (vmsk_check vrk server domain room) 64

-- what it leaves in the output buffer: its 64 bytes and then what stood there, or all that stood there
unfoldable pub vmsk_buffer : List ℕ → List ℕ → List ℕ → List ℕ → List ℕ
vmsk_buffer vrk server domain buffer = buffer_after (vmsk_check vrk server domain (length buffer)) 64 (vmsk_key vrk server domain) buffer

-- the text S of a V-rRK: its label alone
unfoldable pub reauth_text : List ℕ
reauth_text = visited_reauth_label

-- the order of its tests: 1, 6
unfoldable pub reauth_check : List ℕ → ℕ → Check
reauth_check vmsk room = check1 vmsk and_then check6 64 room

-- the V-rRK: 64 bytes of prf+, with the VMSK as K
unfoldable pub reauth_key : List ℕ → List ℕ
reauth_key vmsk = prf_plus_of hmac_sha256 vmsk reauth_text 64

-- what the call answers: 64, or the first refusal
unfoldable pub reauth_answer : List ℕ → ℕ → Answer
reauth_answer vmsk room = answer_to (reauth_check vmsk room) 64

-- what it leaves in the output buffer: its 64 bytes and then what stood there, or all that stood there
unfoldable pub reauth_buffer : List ℕ → List ℕ → List ℕ
reauth_buffer vmsk buffer = buffer_after (reauth_check vmsk (length buffer)) 64 (reauth_key vmsk) buffer
