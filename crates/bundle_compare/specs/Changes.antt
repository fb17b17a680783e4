-- What only the contracts of private functions need. Nothing here has to be believed.
-- The comparison as code makes it, over the attributes of the two bundles.
use Rattle.std.specs.Prelude.{ℕ, Option, Some, None, List, [], ◌∷◌}
use Rattle.bundle_rules.specs.Bundle.{key_id_in}
use Rattle.bundle_contents.specs.declared.bodies.Body.{Body}
use Rattle.compare_rules.specs.Compare.{Found, missing, found, kind_in_first, kind_in_second, Entry, listed, first_entries, second_entries}
use Rattle.bundle_compare.specs.declared.changes.Change.{Change}
use Rattle.bundle_compare.specs.declared.changes.Change.TheVariants.{OnlyFirst, Changed, OnlySecond}
use Rattle.bundle_compare.specs.declared.changes.Side.{Side}
use Rattle.bundle_compare.specs.declared.changes.Side.TheVariants.{First, Second}

-- the kind that an entry has, 0 where there is none
abbrev pub number_of : Option Change → ℕ
number_of None = 0
number_of (Some OnlyFirst) = 1
number_of (Some Changed) = 2
number_of (Some OnlySecond) = 3

-- what was found for a Key ID
abbrev pub found_in : Option Body → Found
found_in None = missing
found_in (Some b) = found b.bytes.now

-- the kind of an attribute of either bundle, by what the other has for its Key ID
abbrev pub kind_by : Side → List ℕ → Found → ℕ
kind_by First b x = kind_in_first b x
kind_by Second b x = kind_in_second x

-- the entries of either bundle, by the attributes of the other
abbrev pub entries_of : Side → List (List ℕ) → List (List ℕ) → List Entry
entries_of First other bodies = first_entries other bodies
entries_of Second other bodies = second_entries other bodies

-- the entries of attributes, by what changed for each
unfoldable pub listed_by : List (Option Change) → List (List ℕ) → List Entry
listed_by [] bodies = []
listed_by (change ∷ changes) [] = []
listed_by (change ∷ changes) (b ∷ bodies) = listed (number_of change) (key_id_in b) (listed_by changes bodies)
