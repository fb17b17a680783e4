-- The attribute area that carries the offers (document 01, "Attribute area"; RFC 5448 sections 3.1 and 3.2): the attributes that stand
-- in it, and what reading it answers and leaves in the buffer that is lent for the offers.
use Rattle.std.specs.Prelude.{ℕ, zero, suc, ◌+◌, ◌-◌, ◌*◌, ◌/◌, Bool, true, cond, ◌&&◌, Option, Some, None, List, [], ◌∷◌, ◌++◌, length, get_or, take, drop, leb, ltb, eqb}
use Rattle.refusal.specs.Checks.{Reason, bare, located, Check, pass, refuse, check6}
use Rattle.slices.specs.Numbers.{be16_at}
use Rattle.area_format.specs.declared.Attribute.{Attribute}
use Rattle.area_format.specs.declared.Attribute.TheVariants.{Offer, Named, Other, Faulty}
use Rattle.area_format.specs.declared.Fault.{Fault}
use Rattle.area_format.specs.declared.Fault.TheVariants.{AttributeBounds, KdfLength, KdfInput, KdfInputPadding, NetworkName, OfferCount}
use Rattle.area_format.specs.declared.Words.{Words}
use Rattle.area_format.specs.declared.Bytes.{Bytes}
use Rattle.area_format.specs.declared.Name.{Name}
use Rattle.area_format.specs.declared.Way.{Way}
use Rattle.area_format.specs.declared.Way.TheVariants.{Strict, Lenient}
use Rattle.area_format.specs.Names.{same_fields}

-- An attribute is read off the bytes from its first to the area's end: its type, its length in four-byte words, and the number in the two
-- bytes that follow, high byte first (the value of an AT_KDF, the name length of an AT_KDF_INPUT).
abbrev pub type_of : List ℕ → ℕ
type_of bytes = get_or bytes 0 0

abbrev pub words_of : List ℕ → Words
words_of bytes = record { 0 = get_or bytes 1 0 }

abbrev pub number_of : List ℕ → ℕ
number_of bytes = be16_at bytes 2

-- the bytes that so many words take
abbrev pub in_bytes : Words → Bytes
in_bytes w = record { 0 = 4 * w.0 }

-- an attribute is within the area: it has a length byte, is not of length 0, and does not go past the end (else 16)
unfoldable pub in_bounds : List ℕ → Bool
in_bounds bytes = leb 2 (length bytes) && (leb 1 (words_of bytes).0 && leb (in_bytes (words_of bytes)).0 (length bytes))

-- AT_KDF: type, 1, value in two bytes (17: its length is not 1)
unfoldable pub kdf : List ℕ → Attribute
kdf bytes = cond (eqb (words_of bytes).0 1) (Offer (number_of bytes)) (Faulty KdfLength)

-- whether all are zero
unfoldable pub zeros : List ℕ → Bool
zeros [] = true
zeros (x ∷ s) = eqb x 0 && zeros s

-- the length in words that belongs to a name of n bytes: 1 plus n divided by 4, rounded up
abbrev pub words_for : ℕ → ℕ
words_for n = 1 + (n + 3) / 4

-- what follows a name of n bytes in its attribute
abbrev pub padding : List ℕ → ℕ → List ℕ
padding bytes n = take ((in_bytes (words_of bytes)).0 - (4 + n)) (drop (4 + n) bytes)

-- AT_KDF_INPUT: type, length, name length in two bytes, name, zero padding (18: its length disagrees with the name length; directly after that
-- 29: its padding is not zero)
unfoldable pub kdf_input : List ℕ → Attribute
kdf_input bytes =
    cond (eqb (words_of bytes).0 (words_for (number_of bytes)))
    (cond (zeros (padding bytes (number_of bytes))) (Named (record { 0 = number_of bytes })) (Faulty KdfInputPadding))
    (Faulty KdfInput)

-- an attribute by its type: AT_KDF is 24, AT_KDF_INPUT 23, and others are stepped over
unfoldable pub attribute : List ℕ → Attribute
attribute bytes = cond (eqb (type_of bytes) 24) (kdf bytes) (cond (eqb (type_of bytes) 23) (kdf_input bytes) Other)

-- an attribute, and the offset from the area's first byte at which it begins
pub data Standing : Type 0 where
  standing : (at : ℕ) → Attribute → Standing

-- The attributes that stand in the bytes from an offset on, left to right. `left` counts the bytes of an attribute that are still to be
-- passed; where none is left, the next attribute begins. Nothing follows one that is not within the area.
unfoldable pub attributes_from : (left at : ℕ) → List ℕ → List Standing
attributes_from left at [] = []
attributes_from (suc left) at (x ∷ rest) = attributes_from left (suc at) rest
attributes_from zero at (x ∷ rest) =
    cond (in_bounds (x ∷ rest))
    (standing at (attribute (x ∷ rest)) ∷ attributes_from ((in_bytes (words_of (x ∷ rest))).0 - 1) (suc at) rest)
    (standing at (Faulty AttributeBounds) ∷ [])

unfoldable pub attributes : List ℕ → List Standing
attributes area = attributes_from 0 0 area

-- what reading comes to: the offers in order with the name's offset and length, or the reason of a refusal
pub data Reading : Type 0 where
  whole : (offers : List ℕ) (at len : ℕ) → Reading
  refusal : Reason → Reading

-- at the end: 19 if no name, then 10 if no offer
abbrev pub ended : List ℕ → Option Name → Reading
ended offers None = refusal (bare 19)
ended offers (Some name) = cond (eqb (length offers) 0) (refusal (bare 10)) (whole offers name.at name.len.0)

-- the number of what is wrong with an attribute; 16 carries the attribute's offset (document 02, request 1)
abbrev pub fault_at : ℕ → Fault → Reason
fault_at at AttributeBounds = located 16 at
fault_at at KdfLength = bare 17
fault_at at KdfInput = bare 18
fault_at at KdfInputPadding = bare 29
fault_at at NetworkName = bare 19
fault_at at OfferCount = bare 10

-- reading on, past the offers and the name met so far: a fault of the attribute first, then a repeated name (19) or the eighteenth AT_KDF (10). A
-- name stands four bytes after its attribute's first.
unfoldable pub read_on : List ℕ → Option Name → List Standing → Reading
read_on offers name [] = ended offers name
read_on offers name (standing at (Faulty x) ∷ later) = refusal (fault_at at x)
read_on offers name (standing at Other ∷ later) = read_on offers name later
read_on offers name (standing at (Offer v) ∷ later) = cond (ltb (length offers) 17) (read_on (offers ++ (v ∷ [])) name later) (refusal (bare 10))
read_on offers None (standing at (Named len) ∷ later) = read_on offers (Some (record { at = at + 4; len = len })) later
read_on offers (Some met) (standing at (Named len) ∷ later) = refusal (bare 19)

-- where the tests before it pass, the reading
abbrev pub guarded : Check → Reading → Reading
guarded pass r = r
guarded (refuse x) r = refusal x

-- whether the name that was read agrees with the peer's own
abbrev pub agrees : List ℕ → List ℕ → (at len : ℕ) → Bool
agrees area own at len = same_fields (take len (drop at area)) own

-- by the chosen way: the strict one refuses a differing name (30), last in the order; the lenient one leaves a reading as it is
abbrev pub judged : Way → List ℕ → List ℕ → Reading → Reading
judged Lenient area own r = r
judged Strict area own (refusal x) = refusal x
judged Strict area own (whole offers at len) = cond (agrees area own at len) (whole offers at len) (refusal (bare 30))

-- the walk through an area, with room for so many offers: room for 17 is checked first (6)
unfoldable pub walked : List ℕ → ℕ → Reading
walked area room = guarded (check6 17 room) (read_on [] None (attributes area))

-- reading an area by the chosen way, the peer's own name being lent
unfoldable pub reading : Way → List ℕ → List ℕ → ℕ → Reading
reading way area own room = judged way area own (walked area room)

-- the answer of a call, by document 01's number and values: the count of the offers, the name's offset from the area's first byte, its length, and
-- whether it agrees with the peer's own; or a refusal
pub data AreaAnswer : Type 0 where
  answered : (count name_at name_len : ℕ) (same : Bool) → AreaAnswer
  refused : Reason → AreaAnswer

-- what the call answers to a reading, the peer's own name being lent
abbrev pub area_answer_to : List ℕ → List ℕ → Reading → AreaAnswer
area_answer_to area own (whole offers at len) = answered (length offers) at len (agrees area own at len)
area_answer_to area own (refusal x) = refused x

-- the buffer after a reading: the offers, and after them what stood there; on a refusal all that stood there
abbrev pub area_buffer_to : Reading → List ℕ → List ℕ
area_buffer_to (whole offers at len) out = offers ++ drop (length offers) out
area_buffer_to (refusal x) out = out

unfoldable pub area_answer : Way → List ℕ → List ℕ → ℕ → AreaAnswer
area_answer way area own room = area_answer_to area own (reading way area own room)

unfoldable pub area_buffer : Way → List ℕ → List ℕ → List ℕ → List ℕ
area_buffer way area own out = area_buffer_to (reading way area own (length out)) out
