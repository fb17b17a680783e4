-- The two round trips of the Key attribute (document 01, "Key attribute"; source document 004, section 3.1). The proofs are in proofs/RoundTrips.antt.
use Rattle.std.specs.Prelude.{ℕ, ◌^◌, ◌≤◌, ◌<◌, ◌≡◌, List, ◌++◌, length, take, drop}
use Rattle.refusal.specs.Answers.{returned}
use Rattle.slices.specs.Bytes.{Bytes}
use Rattle.key_frame.specs.declared.KeyFields.{KeyFields}
use Rattle.key_writer.specs.KeyWriter.{write_answer, write_buffer}
use Rattle.key_reader.specs.KeyReader.{accepted, reading, read_buffer}

-- what is written reads back under the same KEK: of whatever a writer was lent, the n bytes that it answers it wrote are an attribute that the reader, lent
-- an output buffer with room for the key, accepts with the same fields and the key's length; and what it writes is the key
abbrev pub ReadsBack : Type 0
ReadsBack =
    (f : KeyFields) (kek key buffer out : List ℕ) (n : ℕ)
    → f.app_id < 2 ^ 32
    → f.lifetime < 2 ^ 32
    → Bytes kek
    → Bytes key
    → write_answer f kek key (length buffer) ≡ returned n
    → length key ≤ length out
    → (reading kek (take n (write_buffer f kek key buffer)) (length out) ≡ accepted f (length key))
    × (read_buffer kek (take n (write_buffer f kek key buffer)) out ≡ key ++ drop (length key) out)

-- what is accepted, written again, is the same bytes: of an attribute that the reader accepts, with the fields f and n bytes of key in its output buffer, the
-- writer, given these fields, that key and the same KEK, and lent a buffer with room, writes every byte
abbrev pub WritesAgain : Type 0
WritesAgain =
    (kek a out : List ℕ) (f : KeyFields) (n : ℕ) (buffer : List ℕ)
    → Bytes kek
    → Bytes a
    → reading kek a (length out) ≡ accepted f n
    → length a ≤ length buffer
    → (write_answer f kek (take n (read_buffer kek a out)) (length buffer) ≡ returned (length a))
    × (write_buffer f kek (take n (read_buffer kek a out)) buffer ≡ a ++ drop (length a) buffer)
