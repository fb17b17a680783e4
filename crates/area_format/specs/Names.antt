-- Network names and their fields (RFC 5448, section 3.1; document 02, request 4). RFC 5448: the names are split at colons, the extra fields of the
-- longer are dropped, and the rest is compared for equality.
use Rattle.std.specs.Prelude.{ℕ, Bool, true, cond, ◌&&◌, List, [], ◌∷◌, eqb}
use Rattle.slices.specs.Same.{same_list}

-- a byte in front of the first field
abbrev pub onto : ℕ → List (List ℕ) → List (List ℕ)
onto x [] = (x ∷ []) ∷ []
onto x (f ∷ fs) = (x ∷ f) ∷ fs

-- the fields of a name, split at colons (58): n colons make n + 1 fields, and an empty name is one empty field
unfoldable pub fields : List ℕ → List (List ℕ)
fields [] = [] ∷ []
fields (x ∷ s) = cond (eqb x 58) ([] ∷ fields s) (onto x (fields s))

-- whether fields are equal, pair by pair, to the end of the fewer
unfoldable pub pairs_agree : List (List ℕ) → List (List ℕ) → Bool
pairs_agree [] gs = true
pairs_agree (f ∷ fs) [] = true
pairs_agree (f ∷ fs) (g ∷ gs) = same_list f g && pairs_agree fs gs

-- whether two names agree
unfoldable pub same_fields : List ℕ → List ℕ → Bool
same_fields a b = pairs_agree (fields a) (fields b)
