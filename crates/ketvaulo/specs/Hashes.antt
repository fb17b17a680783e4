-- The calls that put a digest of 32 bytes, with no test but that of the room (6).
use Rattle.std.specs.Prelude.{ℕ, List, length}
use Rattle.refusal.specs.Checks.{check6}
use Rattle.refusal.specs.Answers.{Answer, answer_to, buffer_after}

-- what such a call answers: 32, or the refusal
unfoldable pub digest_answer : ℕ → Answer
digest_answer room = answer_to (check6 32 room) 32

-- what it leaves in the output buffer: the digest and then what stood there, or all that stood there
unfoldable pub digest_buffer : List ℕ → List ℕ → List ℕ
digest_buffer digest buffer = buffer_after (check6 32 (length buffer)) 32 digest buffer
