-- A Key ID looked for among attributes: what is found in a bundle is what the definition of the comparison looks up.
use mathlib.Core.Path.{◌≡◌, refl}
use mathlib.Core.Bool.{Bool, true, false, cond}
use mathlib.Core.List.{List, [], ◌∷◌}
use Prim.Native.Nat.{ℕ}
use Rattle.std.specs.Prelude.{Option, Some, None, MatchOption}
use Rattle.slices.specs.Same.{same_list}
use Rattle.bundle_rules.specs.Bundle.{key_id_in}
use Rattle.bundle_contents.specs.Walks.{first_with}
use Rattle.bundle_contents.specs.declared.bodies.Body.{Body}
use Rattle.compare_rules.specs.Compare.{Found, missing, found, lookup}
use Rattle.bundle_compare.specs.Changes.{found_in}

-- what was found, or nothing
abbrev found_of : Option (List ℕ) → Found
found_of None = missing
found_of (Some b) = found b

-- one attribute more
one_more : (b : List ℕ) (x : Option (List ℕ)) {y : Found} (t : Bool) → found_of x ≡ y → found_of (cond t (Some b) x) ≡ cond t (found b) y
one_more b x true e = refl
one_more b x false e = e

looked_up : (id : List ℕ) (bodies : List (List ℕ)) → found_of (first_with id bodies) ≡ lookup id bodies
unfolding first_with lookup
looked_up id [] = refl
looked_up id (b ∷ bodies) = one_more b (first_with id bodies) (same_list (key_id_in b) id) (looked_up id bodies)

pub found_there : (r : Option Body) (id : List ℕ) (bodies : List (List ℕ)) → MatchOption r (first_with id bodies ≡ None) (λ body. first_with id bodies ≡ Some body.bytes.now)
    → found_in r ≡ lookup id bodies
found_there None id bodies e = rw e at (looked_up id bodies)
found_there (Some body) id bodies e = rw e at (looked_up id bodies)
