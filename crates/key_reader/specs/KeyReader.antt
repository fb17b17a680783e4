-- The Key attribute read: source document 004, section 3.1, as document 01, "Key attribute", reads it. The layout is that of key_frame.
use Rattle.std.specs.Prelude.{ℕ, List, length, replicate, Result, Ok, Err}
use Rattle.refusal.specs.Checks.{Reason, Check, pass, refuse, ◌and_then◌, check6}
use Rattle.refusal.specs.Answers.{reason_of, Answer, returned, buffer_after}
use Rattle.refusal.specs.declared.Refusal.{Refusal}
use Rattle.rfc3394.specs.Rfc3394.{unwrapped_iv, unwrapped_key}
use Rattle.keywrap.specs.Calls.{check28}
use Rattle.key_frame.specs.KeyFrame.{fields_of, fields_in, wrapped_in, key_length_in, check22, frame_check}
use Rattle.key_frame.specs.declared.KeyFields.{KeyFields}
use Rattle.key_reader.specs.declared.KeyRead.{KeyRead}

-- the key that an attribute carries under a KEK
unfoldable pub key_in : List ℕ → List ℕ → List ℕ
key_in kek a = unwrapped_key kek (wrapped_in a)

-- the reader's order: 22; 24, 20, 25, 26, 27; 6, for the room of this key; 28
unfoldable pub read_check : List ℕ → List ℕ → ℕ → Check
read_check kek a room = check22 kek and_then frame_check a and_then check6 (key_length_in a) room and_then check28 (unwrapped_iv kek (wrapped_in a))

-- what the reader answers: the fields and the key's length, or a refusal
pub data Reading : Type 0 where
  accepted : (fields : KeyFields) (key_length : ℕ) → Reading
  refused : Reason → Reading

abbrev pub reading_to : Check → KeyFields → ℕ → Reading
reading_to pass f n = accepted f n
reading_to (refuse x) f n = refused x

unfoldable pub reading : List ℕ → List ℕ → ℕ → Reading
reading kek a room = reading_to (read_check kek a room) (fields_in a) (key_length_in a)

-- its buffer after it: the key
unfoldable pub read_buffer : List ℕ → List ℕ → List ℕ → List ℕ
read_buffer kek a buffer = buffer_after (read_check kek a (length buffer)) (key_length_in a) (key_in kek a) buffer

-- what the call returns, as the definitions say it
abbrev pub reading_of : Result KeyRead Refusal → Reading
reading_of (Ok read) = accepted read.fields read.key_len
reading_of (Err x) = refused (reason_of x)

-- how C has it: beside the key's length or the refusal the fields, which are all zero on a refusal
abbrev pub answer_in : Reading → Answer
answer_in (accepted f n) = returned n
answer_in (refused x) = Answer.refused x

abbrev pub no_fields : KeyFields
no_fields = fields_of 0 0 (replicate 16 0) (replicate 16 0) 0

abbrev pub fields_read : Reading → KeyFields
fields_read (accepted f n) = f
fields_read (refused x) = no_fields
