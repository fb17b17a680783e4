-- What is proved of bundles. The proofs are in proofs/.
use Rattle.std.specs.Prelude.{ℕ, ◌≤◌, ◌<◌, ◌≡◌, false, length, take, drop}
use mathlib.Core.List.{List, ◌++◌, flatten}
use Rattle.refusal.specs.Checks.{bare, pass, refuse}
use Rattle.refusal.specs.Answers.{returned}
use Rattle.slices.specs.Bytes.{Bytes}
use Rattle.key_frame.specs.KeyFrame.{frame_check}
use Rattle.radius_attributes.specs.Attributes.{whole}
use Rattle.bundle_rules.specs.Bundle.{key_id_in, file_of, packed, frames_check, write_answer, write_buffer, line_at, count_in, body_of, bodies_of, packed_in, bundle_check, read_answer, read_buffer}

-- what the writer takes apart, where every body passes, are the bodies that were packed
abbrev pub PackedBack : Type 0
PackedBack = (bodies : List (List ℕ)) → frames_check bodies ≡ pass → packed (flatten bodies) ≡ bodies

-- and whatever bytes it is lent, what it takes them apart to are all of them
abbrev pub AllPacked : Type 0
AllPacked = (bytes : List ℕ) → flatten (packed bytes) ≡ bytes

-- where an attribute is cut (24 also past the end), the rest is a body that is refused with 24
abbrev pub CutRefused : Type 0
CutRefused = (bytes : List ℕ) → whole bytes ≡ false → frame_check bytes ≡ refuse (bare 24)

-- an accepted file is the file of its bodies
abbrev pub FileBack : Type 0
FileBack = (file : List ℕ) → Bytes file → bundle_check file ≡ pass → file_of (bodies_of file) ≡ file

-- what is written reads back: of whatever attributes a writer was lent, the n bytes that it answers it wrote are a file that the reader, lent a buffer with
-- room for the attributes, accepts; and what it writes are the attributes
abbrev pub WrittenReads : Type 0
WrittenReads =
    (attributes buffer out : List ℕ) (n : ℕ)
    → write_answer attributes (length buffer) ≡ returned n
    → length attributes ≤ length out
    → (read_answer (take n (write_buffer attributes buffer)) (length out) ≡ returned (length attributes))
    × (read_buffer (take n (write_buffer attributes buffer)) out ≡ attributes ++ drop (length attributes) out)

-- what is read, written again, is the same file: of the n bytes that the reader writes of a file that it accepts, the writer, lent a buffer with room,
-- writes every byte of that file
abbrev pub ReadWrites : Type 0
ReadWrites =
    (file out buffer : List ℕ) (n : ℕ)
    → Bytes file
    → read_answer file (length out) ≡ returned n
    → length file ≤ length buffer
    → (write_answer (take n (read_buffer file out)) (length buffer) ≡ returned (length file))
    × (write_buffer (take n (read_buffer file out)) buffer ≡ file ++ drop (length file) buffer)

-- no Key ID stands twice in an accepted file
abbrev pub NoneTwice : Type 0
NoneTwice =
    (file : List ℕ) → bundle_check file ≡ pass
    → (i j : ℕ) → i < j → j < count_in file → key_id_in (body_of file (line_at file i)) ≡ key_id_in (body_of file (line_at file j)) → ⊥

-- the largest accepted file is 17,410 bytes
abbrev pub Longest : Type 0
Longest = (file : List ℕ) → bundle_check file ≡ pass → length file ≤ 17410

-- and there is one so long
abbrev pub Largest : Type 0
Largest = (file : List ℕ) × (bundle_check file ≡ pass) × (length file ≡ 17410)

-- two accepted files with the same attributes are the same
abbrev pub OneFile : Type 0
OneFile = (f g : List ℕ) → Bytes f → Bytes g → bundle_check f ≡ pass → bundle_check g ≡ pass → packed_in f ≡ packed_in g → f ≡ g
