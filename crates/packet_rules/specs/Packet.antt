-- Request 8. A RADIUS packet, its attributes, and the tests of a packet that has the place of a Message-Authentication-Code (source
-- document 004, section 3.3).
-- Byte 0 code, 1 identifier, 2 length (2), 4 authenticator (16), 20 attributes (RFC 2865, section 5).
-- The attribute: 0 type, 1 length 52, 2 reserved 0, 3 MAC Type 2, 4 MAC Key ID (16), 20 MAC (32).
use Rattle.std.specs.Prelude.{ℕ, ◌+◌, Bool, true, cond, ◌&&◌, List, [], ◌∷◌, eqb, length, drop, get_or}
use Rattle.slices.specs.Numbers.{be16_at}
use Rattle.refusal.specs.Checks.{Check, bare, unless, within}
use Rattle.radius_attributes.specs.Attributes.{whole, split}

-- the length that the header gives
abbrev pub header_length : List ℕ → ℕ
header_length p = be16_at p 2

-- a packet's length is 20 to 4,096, and like its header
unfoldable pub length_holds : List ℕ → Bool
length_holds p = within 20 4096 (length p) && eqb (header_length p) (length p)

-- 35: packet length outside the limits or unlike its header
abbrev pub check35 : List ℕ → Check
check35 p = unless (length_holds p) (bare 35)

-- a packet's attributes: what follows its header, split
unfoldable pub attributes : List ℕ → List (List ℕ)
attributes p = split (drop 20 p)

unfoldable pub all_whole : List (List ℕ) → Bool
all_whole [] = true
all_whole (a ∷ later) = whole a && all_whole later

-- 36: any attribute shorter than 2 or past the end
abbrev pub check36 : List ℕ → Check
check36 p = unless (all_whole (attributes p)) (bare 36)

-- an attribute is whole, and of a type
unfoldable pub of_type : ℕ → List ℕ → Bool
of_type type a = whole a && eqb (get_or a 0 0) type

-- the offsets of those of a type among attributes that stand one after another from an offset on
unfoldable pub places_from : (type at : ℕ) → List (List ℕ) → List ℕ
places_from type at [] = []
places_from type at (a ∷ later) = cond (of_type type a) (at ∷ places_from type (at + length a) later) (places_from type (at + length a) later)

-- the offsets of a packet's attributes of a type, from the packet's first byte
unfoldable pub places : ℕ → List ℕ → List ℕ
places type p = places_from type 20 (attributes p)

-- where the attribute of a type stands, the first of them if there are more
unfoldable pub mac_at : ℕ → List ℕ → ℕ
mac_at type p = get_or (places type p) 0 0

-- of the bytes from an attribute's first on: it is 52 long, its reserved byte 0, its MAC Type 2
unfoldable pub is_mac : List ℕ → Bool
is_mac bytes = eqb (get_or bytes 1 0) 52 && (eqb (get_or bytes 2 0) 0 && eqb (get_or bytes 3 0) 2)

-- exactly one attribute of the type, and that one such
unfoldable pub one_mac : ℕ → List ℕ → Bool
one_mac type p = eqb (length (places type p)) 1 && is_mac (drop (mac_at type p) p)

-- 37: attribute absent, repeated, not 52 long, reserved not zero, or another MAC Type
abbrev pub check37 : ℕ → List ℕ → Check
check37 type p = unless (one_mac type p) (bare 37)
