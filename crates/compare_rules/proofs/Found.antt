-- What a bundle has for a Key ID, where no Key ID stands twice.
use Prim.Native.Nat.{ℕ}
use mathlib.Core.Path.{◌≡◌, refl, sym, ◌∙◌}
use mathlib.Core.Bool.{Bool, true, false, cond, ◌||◌}
use mathlib.Core.List.{List, [], ◌∷◌, map, Memᴰ}
use Rattle.slices.proofs.Truth.{or_left, or_right, or_true}
use Rattle.refusal.specs.Checks.{pass}
use Rattle.slices.specs.Same.{same_list}
use Rattle.slices.proofs.Same.{same_equal, equal_same}
use Rattle.bundle_rules.specs.Bundle.{key_id_in, id_stands, id_repeats, bodies_of, bundle_check}
use Rattle.bundle_rules.proofs.Reading.{contents, laid, laid_ids}
use Rattle.compare_rules.specs.Compare.{Found, missing, found, lookup}

abbrev pub is_found : Found → Bool
is_found missing = false
is_found (found b) = true

-- it has one where the Key ID stands among its own
pub found-stands : (id : List ℕ) (bodies : List (List ℕ)) → is_found (lookup id bodies) ≡ id_stands id (map key_id_in bodies)
unfolding lookup id_stands
found-stands id [] = refl
found-stands id (b ∷ bodies) = go (same_list (key_id_in b) id) (found-stands id bodies)
  where
    go : (s : Bool) → is_found (lookup id bodies) ≡ id_stands id (map key_id_in bodies) → is_found (cond s (found b) (lookup id bodies)) ≡ (s || id_stands id (map key_id_in bodies))
    go true h = refl
    go false h = h

stands_in : {b : List ℕ} {bodies : List (List ℕ)} → Memᴰ b bodies → id_stands (key_id_in b) (map key_id_in bodies) ≡ true
unfolding id_stands
stands_in {b} (Memᴰ.head e) = rw (← e, equal_same (key_id_in b))
stands_in {b} (Memᴰ.tail {x = x} m) = or_true (same_list (key_id_in x) (key_id_in b)) _ (stands_in m)

-- and for the Key ID of one of its attributes it is that attribute
pub found_own : {b : List ℕ} {bodies : List (List ℕ)} → id_repeats (map key_id_in bodies) ≡ false → Memᴰ b bodies → lookup (key_id_in b) bodies ≡ found b
unfolding lookup id_repeats
found_own {b} e (Memᴰ.head q) = rw (← q, equal_same (key_id_in b))
found_own {b} e (Memᴰ.tail {x = x} {xs = bodies} m) = go (same_list (key_id_in x) (key_id_in b)) refl (found_own (or_right (id_stands (key_id_in x) (map key_id_in bodies)) _ e) m)
  where
    go : (s : Bool) → same_list (key_id_in x) (key_id_in b) ≡ s → lookup (key_id_in b) bodies ≡ found b → cond s (found x) (lookup (key_id_in b) bodies) ≡ found b
    go true q h =
        let same = same_equal (key_id_in x) (key_id_in b) q in
        let here = stands_in m in
        let none : id_stands (key_id_in x) (map key_id_in bodies) ≡ false = or_left (id_stands (key_id_in x) (map key_id_in bodies)) _ e in
        let z : true ≡ false = sym here ∙ rw same at none in
        cc
    go false q h = h

-- no Key ID stands twice among the attributes of an accepted file
pub ids_once : (f : List ℕ) → bundle_check f ≡ pass → id_repeats (map key_id_in (bodies_of f)) ≡ false
ids_once f e = rw (laid_ids (laid f e)) (contents f e).once
