-- A bundle of Key attributes (document 02, request 9): a count (2), for each key a line of Key ID (16), offset from the file's first byte (2) and length (2),
-- then the attributes, which are the bodies, in the same order, packed with no gap. Numbers stand high byte first.
use Rattle.std.specs.Prelude.{ℕ, zero, suc, ◌+◌, ◌*◌, Bool, true, false, not, ◌&&◌, ◌||◌, leb, eqb, length, take, drop}
use mathlib.Core.List.{List, [], ◌∷◌, ◌++◌, map, flatten}
use Rattle.refusal.specs.Checks.{Check, pass, bare, unless, ◌and_then◌, within, check6}
use Rattle.refusal.specs.Answers.{Answer, answer_to, buffer_after}
use Rattle.slices.specs.Numbers.{be16, be16_at}
use Rattle.slices.specs.Same.{same_list}
use Rattle.key_frame.specs.KeyFrame.{fields_in, frame_check}
use Rattle.radius_attributes.specs.Attributes.{split}

-- where the contents of n lines end: the count, and 20 bytes a line
abbrev pub contents_end : ℕ → ℕ
contents_end n = 2 + 20 * n

-- the Key ID of an attribute
unfoldable pub key_id_in : List ℕ → List ℕ
key_id_in a = (fields_in a).key_id

-- a Key ID stands among others; one stands twice
unfoldable pub id_stands : List ℕ → List (List ℕ) → Bool
id_stands id [] = false
id_stands id (x ∷ ids) = same_list x id || id_stands id ids

unfoldable pub id_repeats : List (List ℕ) → Bool
id_repeats [] = false
id_repeats (x ∷ ids) = id_stands x ids || id_repeats ids

-- 39: a wrong count, one that is not 1 to 64
abbrev pub check_count : ℕ → Check
check_count n = unless (within 1 64 n) (bare 39)

-- 42: repeated Key ID
abbrev pub check42 : List (List ℕ) → Check
check42 ids = unless (not (id_repeats ids)) (bare 42)

-- ---- the file of bodies

-- the line of a body that begins at an offset
unfoldable pub line_of : ℕ → List ℕ → List ℕ
line_of at b = key_id_in b ++ (be16 at ++ be16 (length b))

-- the lines of bodies that stand one after the other from an offset on
unfoldable pub lines_of : ℕ → List (List ℕ) → List ℕ
lines_of at [] = []
lines_of at (b ∷ bodies) = line_of at b ++ lines_of (at + length b) bodies

unfoldable pub file_of : List (List ℕ) → List ℕ
file_of bodies = be16 (length bodies) ++ (lines_of (contents_end (length bodies)) bodies ++ flatten bodies)

-- ---- writing

-- the attributes that are lent packed end to end. Where one is cut, all the bytes that are left are one body, which the frame's test refuses with 24
-- ("24 also past the end"; `CutRefused` of specs/Statements.antt)
abbrev pub packed : List ℕ → List (List ℕ)
packed bytes = split bytes

-- body by body: each by the tests of a Key attribute that need no KEK, 24, 20, 25, 26 and 27
unfoldable pub frames_check : List (List ℕ) → Check
frames_check [] = pass
frames_check (b ∷ bodies) = frame_check b and_then frames_check bodies

-- the writer's order without its 6: body by body, then 39, 42
unfoldable pub packed_check : List ℕ → Check
packed_check bytes = frames_check (packed bytes) and_then check_count (length (packed bytes)) and_then check42 (map key_id_in (packed bytes))

-- how many bytes the file has
abbrev pub file_length : List ℕ → ℕ
file_length bytes = contents_end (length (packed bytes)) + length bytes

-- the writer's order; room is the length of the output buffer
unfoldable pub write_check : List ℕ → ℕ → Check
write_check bytes room = packed_check bytes and_then check6 (file_length bytes) room

-- what the writer answers: the file's length, or a refusal; and its buffer after it
unfoldable pub write_answer : List ℕ → ℕ → Answer
write_answer bytes room = answer_to (write_check bytes room) (file_length bytes)

unfoldable pub write_buffer : List ℕ → List ℕ → List ℕ
write_buffer bytes out = buffer_after (write_check bytes (length out)) (file_length bytes) (file_of (packed bytes)) out

-- ---- reading

-- a line of the contents
pub record Line : Type 0 where
  pub id : List ℕ
  pub offset : ℕ
  pub size : ℕ

-- line i of a file, counted from 0, and n lines from line i on
unfoldable pub line_at : List ℕ → ℕ → Line
line_at f i = record { id = take 16 (drop (contents_end i) f); offset = be16_at f (18 + 20 * i); size = be16_at f (20 + 20 * i) }

unfoldable pub lines_from : List ℕ → ℕ → ℕ → List Line
lines_from f i zero = []
lines_from f i (suc n) = line_at f i ∷ lines_from f (suc i) n

-- the count, and the lines
abbrev pub count_in : List ℕ → ℕ
count_in f = be16_at f 0

abbrev pub lines_in : List ℕ → List Line
lines_in f = lines_from f 0 (count_in f)

-- each offset is the previous end; `end` is that before the first. Ends are whole numbers, not taken modulo 65,536
unfoldable pub follow : ℕ → List Line → Bool
follow end [] = true
follow end (l ∷ lines) = eqb l.offset end && follow (l.offset + l.size) lines

-- the end of the last body
unfoldable pub last_end : ℕ → List Line → ℕ
last_end end [] = end
last_end end (l ∷ lines) = last_end (l.offset + l.size) lines

-- a line's body, and those of all lines
unfoldable pub body_of : List ℕ → Line → List ℕ
body_of f l = take l.size (drop l.offset f)

abbrev pub ids_of : List Line → List (List ℕ)
ids_of lines = map (λ (l : Line). l.id) lines

abbrev pub bodies_of : List ℕ → List (List ℕ)
bodies_of f = map (body_of f) (lines_in f)

-- the attributes packed end to end: all that follows the contents
abbrev pub packed_in : List ℕ → List ℕ
packed_in f = drop (contents_end (count_in f)) f

-- 39: under two bytes or a wrong count
abbrev pub check39 : List ℕ → Check
check39 f = unless (leb 2 (length f) && within 1 64 (count_in f)) (bare 39)

-- 40: contents cut short, or an offset that is not the previous end
abbrev pub check40 : List ℕ → Check
check40 f = unless (leb (contents_end (count_in f)) (length f) && follow (contents_end (count_in f)) (lines_in f)) (bare 40)

-- 41: a file not ending with the last body
abbrev pub check41 : List ℕ → Check
check41 f = unless (eqb (last_end (contents_end (count_in f)) (lines_in f)) (length f)) (bare 41)

-- 50: a Key ID unlike its line
abbrev pub check50 : (id body : List ℕ) → Check
check50 id body = unless (same_list (key_id_in body) id) (bare 50)

-- body by body its own number, then 50
unfoldable pub bodies_check : List ℕ → List Line → Check
bodies_check f [] = pass
bodies_check f (l ∷ lines) = frame_check (body_of f l) and_then check50 l.id (body_of f l) and_then bodies_check f lines

-- the tests of the table of contents
unfoldable pub contents_check : List ℕ → Check
contents_check f = check39 f and_then check40 f and_then check41 f and_then check42 (ids_of (lines_in f))

-- the reader's order without its 6: 39, 40, 41, 42, then body by body its own number and 50
unfoldable pub bundle_check : List ℕ → Check
bundle_check f = contents_check f and_then bodies_check f (lines_in f)

-- the reader's order; room is the length of the output buffer
unfoldable pub read_check : List ℕ → ℕ → Check
read_check f room = bundle_check f and_then check6 (length (packed_in f)) room

-- what the reader answers: the count of the bodies' bytes, or a refusal; and its buffer after it
unfoldable pub read_answer : List ℕ → ℕ → Answer
read_answer f room = answer_to (read_check f room) (length (packed_in f))

unfoldable pub read_buffer : List ℕ → List ℕ → List ℕ
read_buffer f out = buffer_after (read_check f (length out)) (length (packed_in f)) (packed_in f) out
