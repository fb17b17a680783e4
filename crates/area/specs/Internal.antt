-- What only the contracts of private functions need. Nothing here has to be believed.
use Rattle.std.specs.Prelude.{ℕ, ⊤, Bool, true, cond, List, [], ◌∷◌, Option, Some, None, Result, Ok, Err, drop, eqb}
use Rattle.area_format.specs.declared.Attribute.{Attribute}
use Rattle.area_format.specs.declared.Bytes.{Bytes}
use Rattle.area_format.specs.declared.Fault.{Fault}
use Rattle.area_format.specs.declared.Name.{Name}
use Rattle.area_format.specs.declared.Way.{Way}
use Rattle.area_format.specs.declared.Way.TheVariants.{Strict, Lenient}
use Rattle.area_format.specs.Area.{words_of, in_bytes, in_bounds, attribute, fault_at, Reading, whole, refusal, Standing, attributes_from, read_on}
use Rattle.area.specs.declared.walk.Met.{Met}
use Rattle.area.specs.declared.walk.Stopped.{Stopped}

-- ---- the reader

-- the attribute at the start of the bytes, and its length, where it is within them
unfoldable pub met_in : List ℕ → Option (Attribute × Bytes)
met_in bytes = cond (in_bounds bytes) (Some (attribute bytes, in_bytes (words_of bytes))) None

-- the attributes of the area from an offset on
abbrev pub standings : List ℕ → ℕ → List Standing
standings area at = attributes_from 0 at (drop at area)

-- ---- the walk, as a reading of the area (area_format/specs/Area.antt)

-- what a walk came to, past these offers
abbrev pub walked_as : Result Name Stopped → List ℕ → Reading
walked_as (Ok name) offers = whole offers name.at name.len.0
walked_as (Err stopped) offers = refusal (fault_at stopped.at stopped.why)

-- what is left to be read after an attribute, past what was met so far
abbrev pub read_after : Result ⊤ Fault → ℕ → Met → List Standing → Reading
read_after (Ok _) at met later = read_on met.offers met.name later
read_after (Err why) at met later = refusal (fault_at at why)

-- ---- the name

-- whether a field ends before these bytes: nothing or a colon follows
abbrev pub ends : List ℕ → Bool
ends [] = true
ends (x ∷ s) = eqb x 58

-- whether a way goes on, by whether the names agree
abbrev pub allowed : Way → Bool → Bool
allowed Strict same = same
allowed Lenient same = true
