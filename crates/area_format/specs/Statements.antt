-- What is proved of the definitions beyond the worked cases. The proofs are in proofs/.
use Rattle.std.specs.Prelude.{ℕ, ◌<◌, ◌≡◌, Bool, true, false, ◌↔◌, ◌⊎◌, List, [], ◌∷◌, ◌++◌, length, drop}
use Rattle.refusal.specs.Checks.{bare, located}
use Rattle.area_format.specs.declared.Attribute.TheVariants.{Faulty}
use Rattle.area_format.specs.declared.Fault.TheVariants.{AttributeBounds}
use Rattle.area_format.specs.declared.Way.{Way}
use Rattle.area_format.specs.declared.Way.TheVariants.{Strict, Lenient}
use Rattle.area_format.specs.Names.{same_fields}
use Rattle.area_format.specs.Area.{in_bounds, Standing, standing, attributes, walked, answered, refused, area_answer_to, area_buffer_to, area_answer, area_buffer}

-- Document 02, request 1. An area that is refused by 16 at an offset, in whichever way it is read: the offset is within the area, the last of its attributes begins there, and that
-- attribute is not within the area.
abbrev pub BoundsPlace : Type 0
BoundsPlace =
    (way : Way) (area own : List ℕ) (room i : ℕ)
    → area_answer way area own room ≡ refused (located 16 i)
    → (i < length area)
    × ((before : List Standing) × (attributes area ≡ before ++ (standing i (Faulty AttributeBounds) ∷ [])))
    × (in_bounds (drop i area) ≡ false)

-- Document 02, request 4. Two names agree exactly if they are equal, or one is the other with a colon and any bytes after it.
abbrev pub PrefixRule : Type 0
PrefixRule =
    (a b : List ℕ)
    → (same_fields a b ≡ true)
    ↔ ((a ≡ b) ⊎ (((t : List ℕ) × (b ≡ a ++ (58 ∷ t))) ⊎ ((t : List ℕ) × (a ≡ b ++ (58 ∷ t)))))

-- and then each agrees with the other
abbrev pub FieldsSymmetric : Type 0
FieldsSymmetric = (a b : List ℕ) → same_fields a b ≡ same_fields b a

-- Document 02, request 5. The lenient way answers what the walk through the area came to, as reading did before there were two ways.
abbrev pub LenientAsBefore : Type 0
LenientAsBefore =
    (area own out : List ℕ) (room : ℕ)
    → (area_answer Lenient area own room ≡ area_answer_to area own (walked area room))
    × (area_buffer Lenient area own out ≡ area_buffer_to (walked area (length out)) out)

-- what the strict way accepts has a name that agrees
abbrev pub StrictAgrees : Type 0
StrictAgrees =
    (area own : List ℕ) (room count at len : ℕ) (same : Bool)
    → area_answer Strict area own room ≡ answered count at len same
    → same ≡ true

-- it refuses by 30 exactly what the lenient way answers with a name that differs
abbrev pub StrictRefuses : Type 0
StrictRefuses =
    (area own : List ℕ) (room : ℕ)
    → (area_answer Strict area own room ≡ refused (bare 30))
    ↔ ((count : ℕ) × (at : ℕ) × (len : ℕ) × (area_answer Lenient area own room ≡ answered count at len false))
