-- Requests for keys under an EMSK: when one is accepted, the bytes handed to HMAC for each of its blocks, its key, and what the call
-- answers and leaves (document 01, "Usage keys"; document 02, request 6). The contracts of the calls under an EMSK and the separation of their keys speak of
-- these same definitions.
use Rattle.std.specs.Prelude.{ℕ, ◌≤◌, List, [], ◌≡◌}
use Rattle.refusal.specs.Checks.{Check, pass, ◌and_then◌, check1, check6}
use Rattle.refusal.specs.Answers.{Answer, answer_to, buffer_after}
use Rattle.labels.specs.FixedLabels.{vrk_label, dsrk_label}
use Rattle.labels.specs.Checks.{label_check, check8, check31}
use Rattle.hmac.specs.Rfc2104.{hmac_sha256}
use Rattle.prf_plus.specs.PrfPlus.{block_count, block_input, prf_plus_of, check5}
use Rattle.requests.specs.Rfc5295.{usage_text, check4}

-- a usage request (document 01's term): a label, optional data (none is data of length 0), the key length n, and the room in the output
-- buffer. Asking for a VRK counts as one, and asking for the root key of a domain is a request beside them (document 02, request 6). The EMSK is
-- no part of it, so that "under one EMSK" is one variable
pub data Request : Type 0 where
  for_usage : (label extra : List ℕ) (n room : ℕ) → Request
  for_vrk : (room : ℕ) → Request
  for_domain : (domain : List ℕ) (room : ℕ) → Request

-- its label, its optional data and its key length. A VRK has its fixed label, no data and n = 64; a domain root key (RFC 5295, section 4) has
-- its fixed label, the domain as data and n = 64
abbrev pub label_of : Request → List ℕ
label_of (for_usage label extra n room) = label
label_of (for_vrk room) = vrk_label
label_of (for_domain domain room) = dsrk_label

abbrev pub data_of : Request → List ℕ
data_of (for_usage label extra n room) = extra
data_of (for_vrk room) = []
data_of (for_domain domain room) = domain

abbrev pub length_of : Request → ℕ
length_of (for_usage label extra n room) = n
length_of (for_vrk room) = 64
length_of (for_domain domain room) = 64

-- the order of its tests: 1, 2, 3, 32, 31, 4, 5, 6 for a usage key (`label_check` is 2, 3, 32); 1, 6 for a VRK; 1, 8, 6 for a domain root
-- key
unfoldable pub check_of : List ℕ → Request → Check
check_of emsk (for_usage label extra n room) = check1 emsk and_then label_check label and_then check31 label and_then check4 extra and_then check5 n and_then check6 n room
check_of emsk (for_vrk room) = check1 emsk and_then check6 64 room
check_of emsk (for_domain domain room) = check1 emsk and_then check8 domain and_then check6 64 room

-- accepted under an EMSK: exactly when no number of its order holds
abbrev pub Accepted : List ℕ → Request → Type 0
Accepted emsk r = check_of emsk r ≡ pass

-- its text S
unfoldable pub text_of : Request → List ℕ
text_of r = usage_text (label_of r) (data_of r) (length_of r)

-- its blocks: from 1 to n/32 rounded up
abbrev pub BlockOf : Request → ℕ → Type 0
BlockOf r i = (1 ≤ i) × (i ≤ block_count (length_of r))

-- the bytes handed to HMAC for block i
unfoldable pub input_of : List ℕ → Request → ℕ → List ℕ
input_of emsk r i = block_input hmac_sha256 emsk (text_of r) i

-- its key: the first n bytes of prf+, with the EMSK as K
unfoldable pub key_of : List ℕ → Request → List ℕ
key_of emsk r = prf_plus_of hmac_sha256 emsk (text_of r) (length_of r)

-- what the call answers: n, or the first refusal
unfoldable pub request_answer : List ℕ → Request → Answer
request_answer emsk r = answer_to (check_of emsk r) (length_of r)

-- what the call leaves in the output buffer: the key and then what stood there, or all that stood there
unfoldable pub request_buffer : List ℕ → Request → List ℕ → List ℕ
request_buffer emsk r buffer = buffer_after (check_of emsk r) (length_of r) (key_of emsk r) buffer
