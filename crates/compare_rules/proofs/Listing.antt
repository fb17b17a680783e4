-- The entries of either bundle: their Key IDs, and the kind of each.
use Prim.Native.Nat.{ℕ}
use mathlib.Core.Path.{◌≡◌, refl, ap, ◌∙◌}
use mathlib.Core.Bool.{Bool, true, false, not, cond}
use mathlib.Core.List.{List, [], ◌∷◌, map, Memᴰ}
use lib.Dec.{eqb}
use Rattle.slices.specs.Same.{same_list}
use Rattle.bundle_rules.specs.Bundle.{key_id_in, id_stands}
use Rattle.compare_rules.specs.Compare.{Found, missing, found, lookup, kind_in_first, kind_in_second, Entry, listed, first_entries, second_entries}
use Rattle.compare_rules.specs.Statements.{same_found, kind_of, keep, ids_listed}
use Rattle.compare_rules.proofs.Found.{is_found, found-stands}

-- ---- one attribute's kind

pub first-listed : (b : List ℕ) (y : Found) → eqb (kind_in_first b y) 0 ≡ same_found (found b) y
first-listed b missing = refl
first-listed b (found other) = go (same_list b other)
  where
    go : (s : Bool) → eqb (cond s 0 2) 0 ≡ s
    go true = refl
    go false = refl

pub first_kind : (b : List ℕ) (y : Found) → eqb (kind_in_first b y) 0 ≡ false → kind_in_first b y ≡ kind_of (found b) y
first_kind b missing e = refl
first_kind b (found other) e = go (same_list b other) e
  where
    go : (s : Bool) → eqb (cond s 0 2) 0 ≡ false → ◌≡◌ {A = ℕ} (cond s 0 2) 2
    go true e' = cc
    go false e' = refl

pub second_listed : (x : Found) → eqb (kind_in_second x) 0 ≡ is_found x
second_listed missing = refl
second_listed (found b) = refl

pub second_missing : (x : Found) → eqb (kind_in_second x) 0 ≡ false → x ≡ missing
second_missing missing e = refl
second_missing (found b) e = cc

-- ---- the Key IDs listed

listed_ids : (kind : ℕ) (id : List ℕ) (more : List Entry) (ids : List (List ℕ)) (same : Bool) → eqb kind 0 ≡ same → ids_listed more ≡ ids
    → ids_listed (listed kind id more) ≡ cond (not same) (id ∷ ids) ids
unfolding listed
listed_ids kind id more ids true e h = rw e h
listed_ids kind id more ids false e h = rw e (λ i. id ∷ h i)

module _ (first second : List (List ℕ)) where
  -- in the first bundle's order those that differ
  pub first_ids : (bodies : List (List ℕ)) → ((b : List ℕ) → Memᴰ b bodies → lookup (key_id_in b) first ≡ found b)
      → ids_listed (first_entries second bodies) ≡ keep (λ (id : List ℕ). not (same_found (lookup id first) (lookup id second))) (map key_id_in bodies)
  unfolding first_entries keep
  first_ids [] own = refl
  first_ids (b ∷ bodies) own =
      let later = first_ids bodies (λ x m. own x (Memᴰ.tail m)) in
      let here = own b (Memᴰ.head refl) in
      rw here (listed_ids (kind_in_first b (lookup (key_id_in b) second)) (key_id_in b) _ _ _ (first-listed b (lookup (key_id_in b) second)) later)

  -- in the second's order those that are not in the first
  pub second_ids : (bodies : List (List ℕ)) → ids_listed (second_entries first bodies) ≡ keep (λ (id : List ℕ). not (id_stands id (map key_id_in first))) (map key_id_in bodies)
  unfolding second_entries keep
  second_ids [] = refl
  second_ids (b ∷ bodies) =
      let same = second_listed (lookup (key_id_in b) first) ∙ found-stands (key_id_in b) first in
      listed_ids (kind_in_second (lookup (key_id_in b) first)) (key_id_in b) _ _ _ same (second_ids bodies)

-- ---- an entry that is listed

pub data Listed (e : Entry) (kind : ℕ) (id : List ℕ) (more : List Entry) : Type 0 where
  here : eqb kind 0 ≡ false → e.kind ≡ kind → e.id ≡ id → Listed e kind id more
  later : Memᴰ e more → Listed e kind id more

pub listed_entry : {e : Entry} (kind : ℕ) (id : List ℕ) (more : List Entry) → Memᴰ e (listed kind id more) → Listed e kind id more
unfolding listed
listed_entry {e} kind id more m = go (eqb kind 0) refl m
  where
    go : (t : Bool) → eqb kind 0 ≡ t → Memᴰ e (cond t more (record { kind = kind; id = id } ∷ more)) → Listed e kind id more
    go true q m' = later m'
    go false q (Memᴰ.head p) = here q (ap (λ (x : Entry). x.kind) p) (ap (λ (x : Entry). x.id) p)
    go false q (Memᴰ.tail m') = later m'
