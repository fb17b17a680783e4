-- Key names: NDF-64 of source document 001, section 4.1, as document 01 reads it ("Visited keys"). RFC 5295's own key name is another and is
-- not built.
use Rattle.std.specs.Prelude.{ℕ, List, ◌++◌, length, take}
use Rattle.refusal.specs.Checks.{Check, bare, unless, within, ◌and_then◌, check6}
use Rattle.refusal.specs.Answers.{Answer, answer_to, buffer_after}
use Rattle.labels.specs.Checks.{label_check}
use Rattle.fips180.specs.Sha256.{sha256}

-- 9: Session-ID not 1 to 255 bytes
abbrev pub check9 : List ℕ → Check
check9 session = unless (within 1 255 (length session)) (bare 9)

-- the order of the tests: 9, 2, 3, 32, 6 (`label_check` is 2, 3, 32)
unfoldable pub name_check : List ℕ → List ℕ → ℕ → Check
name_check session label room = check9 session and_then label_check label and_then check6 8 room

-- the name: the first 8 bytes of SHA-256 over Session-ID then label
unfoldable pub name_of : List ℕ → List ℕ → List ℕ
name_of session label = take 8 (sha256 (session ++ label))

-- what the call answers: 8, or the first refusal
unfoldable pub name_answer : List ℕ → List ℕ → ℕ → Answer
name_answer session label room = answer_to (name_check session label room) 8

-- what it leaves in the output buffer: its 8 bytes and then what stood there, or all that stood there
unfoldable pub name_buffer : List ℕ → List ℕ → List ℕ → List ℕ
name_buffer session label buffer = buffer_after (name_check session label (length buffer)) 8 (name_of session label) buffer
