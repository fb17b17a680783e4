-- RADIUS attributes (RFC 2865, section 5). Byte 0 type, byte 1 length in bytes with these two, then the value. Attributes stand one after another with no gap.
use Rattle.std.specs.Prelude.{ℕ, zero, suc, ◌-◌, Bool, cond, ◌&&◌, Option, Some, None, List, [], ◌∷◌, leb, length, take, get_or}

-- the attribute that the bytes begin with is whole: it has a length byte, of 2 or more, and ends within them; else it is cut
unfoldable pub whole : List ℕ → Bool
whole bytes = leb 2 (get_or bytes 1 0) && leb (get_or bytes 1 0) (length bytes)

-- its length; 0 where it is cut
unfoldable pub size_in : List ℕ → ℕ
size_in bytes = cond (whole bytes) (get_or bytes 1 0) 0

-- the same, none where it is cut
unfoldable pub whole_size : List ℕ → Option ℕ
whole_size bytes = cond (whole bytes) (Some (size_in bytes)) None

-- how many bytes it takes: so many as its length says, and where it is cut all that there are
unfoldable pub attribute_length : List ℕ → ℕ
attribute_length bytes = cond (whole bytes) (get_or bytes 1 0) (length bytes)

-- The bytes taken apart into attributes, left to right. `left` counts the bytes of an attribute that are still to be passed; where none is left, the next begins.
unfoldable pub split_from : (left : ℕ) → List ℕ → List (List ℕ)
split_from left [] = []
split_from (suc left) (x ∷ rest) = split_from left rest
split_from zero (x ∷ rest) = take (attribute_length (x ∷ rest)) (x ∷ rest) ∷ split_from (attribute_length (x ∷ rest) - 1) rest

unfoldable pub split : List ℕ → List (List ℕ)
split bytes = split_from 0 bytes
