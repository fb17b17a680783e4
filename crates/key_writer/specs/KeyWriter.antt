-- The Key attribute written: source document 004, section 3.1, as document 01, "Key attribute", reads it. The layout is that of key_frame.
use Rattle.std.specs.Prelude.{ℕ, ◌+◌, ◌&&◌, List, ◌++◌, eqb, length}
use Rattle.refusal.specs.Checks.{Check, bare, unless, ◌and_then◌, check6, check20}
use Rattle.refusal.specs.Answers.{Answer, answer_to, buffer_after}
use Rattle.rfc3394.specs.Rfc3394.{wrapped}
use Rattle.keywrap.specs.Calls.{check23}
use Rattle.key_frame.specs.KeyFrame.{header, check22}
use Rattle.key_frame.specs.declared.KeyFields.{KeyFields}

-- the attribute's length is 60 plus the key's
abbrev pub attribute_length : List ℕ → ℕ
attribute_length key = 60 + length key

-- the attribute that carries a key under a KEK
unfoldable pub attribute : KeyFields → List ℕ → List ℕ → List ℕ
attribute f kek key = header f (attribute_length key) ++ wrapped kek key

-- 21: KEK ID or Key ID not 16 bytes
abbrev pub check21 : List ℕ → List ℕ → Check
check21 kekId keyId = unless (eqb (length kekId) 16 && eqb (length keyId) 16) (bare 21)

-- the writer's order: 20, 21, 22, 23, 6; room is the length of the output buffer
unfoldable pub write_check : KeyFields → List ℕ → List ℕ → ℕ → Check
write_check f kek key room =
    check20 f.attribute_type
    and_then check21 f.kek_id f.key_id
    and_then check22 kek
    and_then check23 (length key)
    and_then check6 (attribute_length key) room

-- what the writer answers: the attribute's length, or a refusal; and its buffer after it
unfoldable pub write_answer : KeyFields → List ℕ → List ℕ → ℕ → Answer
write_answer f kek key room = answer_to (write_check f kek key room) (attribute_length key)

unfoldable pub write_buffer : KeyFields → List ℕ → List ℕ → List ℕ → List ℕ
write_buffer f kek key buffer = buffer_after (write_check f kek key (length buffer)) (attribute_length key) (attribute f kek key) buffer
