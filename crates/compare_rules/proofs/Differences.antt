-- Each Key ID that differs is listed exactly once, with its kind and in its place, and none that agrees.
use Prim.Native.Nat.{ℕ, ◌+◌}
use mathlib.Core.Path.{◌≡◌, refl, sym, ap, ◌∙◌}
use mathlib.Core.Bool.{Bool, true, false, not, cond}
use mathlib.Core.List.Memᴰ
use mathlib.Core.List.{List, [], ◌∷◌, ◌++◌, map, map-append, Memᴰ}
use mathlib.Core.Logic.{◌⊎◌, inl, inr}
use Rattle.slices.specs.Same.{same_list}
use Rattle.bundle_rules.specs.Bundle.{key_id_in, id_stands, id_repeats, bodies_of}
use Rattle.compare_rules.specs.Compare.{Found, missing, found, lookup, kind_in_first, kind_in_second, Entry, first_entries, second_entries, entries, entries_in}
use Rattle.compare_rules.specs.Statements.{same_found, differs, kind_of, times, keep, ids_listed, ExactlyOnce, KindRight, Order}
use Rattle.compare_rules.proofs.Ids.{times_append, times-keep, times_once}
use Rattle.compare_rules.proofs.Found.{is_found, found-stands, found_own, ids_once}
use Rattle.compare_rules.proofs.Listing.{first-listed, first_kind, second_missing, first_ids, second_ids, Listed, here, later, listed_entry}

abbrev unlike : List (List ℕ) → List (List ℕ) → List ℕ → Bool
unlike first second id = not (same_found (lookup id first) (lookup id second))

-- what a Key ID comes to in the two parts, by what the bundles have for it
once_by : (x y : Found) → cond (not (same_found x y)) (cond (is_found x) 1 0) 0 + cond (not (is_found x)) (cond (is_found y) 1 0) 0 ≡ cond (not (same_found x y)) 1 0
once_by missing missing = refl
once_by missing (found b) = refl
once_by (found a) missing = refl
once_by (found a) (found b) = go (same_list a b)
  where
    go : (s : Bool) → cond (not s) 1 0 + 0 ≡ cond (not s) 1 0
    go true = refl
    go false = refl

module _ (first second : List (List ℕ)) (once₁ : id_repeats (map key_id_in first) ≡ false) (once₂ : id_repeats (map key_id_in second) ≡ false) where
  ordered : ids_listed (entries first second) ≡ keep (unlike first second) (map key_id_in first) ++ keep (λ (id : List ℕ). not (id_stands id (map key_id_in first))) (map key_id_in second)
  unfolding entries
  ordered =
      map-append (λ (e : Entry). e.id) (first_entries second first) (second_entries first second)
      ∙ (λ i. first_ids first second first (λ b m. found_own once₁ m) i ++ second_ids first second second i)

  counted : (id : List ℕ) → times id (ids_listed (entries first second)) ≡ cond (unlike first second id) 1 0
  counted id =
      let a = found-stands id first in
      let b = found-stands id second in
      let p = rw (times_once id (map key_id_in first) once₁, ← a) at (times-keep (unlike first second) id (map key_id_in first)) in
      let q = rw (times_once id (map key_id_in second) once₂, ← a, ← b) at (times-keep (λ (x : List ℕ). not (id_stands x (map key_id_in first))) id (map key_id_in second)) in
      ap (times id) ordered ∙ times_append id _ _ ∙ (λ i. p i + q i) ∙ once_by (lookup id first) (lookup id second)

  kind-first : (bodies : List (List ℕ)) → ((b : List ℕ) → Memᴰ b bodies → lookup (key_id_in b) first ≡ found b) → (e : Entry) → Memᴰ e (first_entries second bodies)
      → (e.kind ≡ kind_of (lookup e.id first) (lookup e.id second)) × (unlike first second e.id ≡ true)
  unfolding first_entries
  kind-first [] own e m = absurd (Memᴰ.not-nil m)
  kind-first (b ∷ bodies) own e m = go (listed_entry _ (key_id_in b) (first_entries second bodies) m) (λ r. kind-first bodies (λ x n. own x (Memᴰ.tail n)) e r)
    where
      go : Listed e (kind_in_first b (lookup (key_id_in b) second)) (key_id_in b) (first_entries second bodies)
          → (Memᴰ e (first_entries second bodies) → (e.kind ≡ kind_of (lookup e.id first) (lookup e.id second)) × (unlike first second e.id ≡ true))
          → (e.kind ≡ kind_of (lookup e.id first) (lookup e.id second)) × (unlike first second e.id ≡ true)
      go (later r) below = below r
      go (here q k i) below =
          let o = own b (Memᴰ.head refl) in
          rw (i, o) (k ∙ first_kind b (lookup (key_id_in b) second) q, ap not (sym (first-listed b (lookup (key_id_in b) second)) ∙ q))

  kind-second : (bodies : List (List ℕ)) → ((b : List ℕ) → Memᴰ b bodies → lookup (key_id_in b) second ≡ found b) → (e : Entry) → Memᴰ e (second_entries first bodies)
      → (e.kind ≡ kind_of (lookup e.id first) (lookup e.id second)) × (unlike first second e.id ≡ true)
  unfolding second_entries
  kind-second [] own e m = absurd (Memᴰ.not-nil m)
  kind-second (b ∷ bodies) own e m = go (listed_entry _ (key_id_in b) (second_entries first bodies) m) (λ r. kind-second bodies (λ x n. own x (Memᴰ.tail n)) e r)
    where
      go : Listed e (kind_in_second (lookup (key_id_in b) first)) (key_id_in b) (second_entries first bodies)
          → (Memᴰ e (second_entries first bodies) → (e.kind ≡ kind_of (lookup e.id first) (lookup e.id second)) × (unlike first second e.id ≡ true))
          → (e.kind ≡ kind_of (lookup e.id first) (lookup e.id second)) × (unlike first second e.id ≡ true)
      go (later r) below = below r
      go (here q k i) below =
          let o = own b (Memᴰ.head refl) in
          let n = second_missing (lookup (key_id_in b) first) q in
          rw (i, o, n) (rw n at k, refl)

  kinds : (e : Entry) → Memᴰ e (entries first second) → (e.kind ≡ kind_of (lookup e.id first) (lookup e.id second)) × (unlike first second e.id ≡ true)
  unfolding entries
  kinds e m = go (Memᴰ.append_cases (first_entries second first) m)
    where
      go : Memᴰ e (first_entries second first) ⊎ Memᴰ e (second_entries first second)
          → (e.kind ≡ kind_of (lookup e.id first) (lookup e.id second)) × (unlike first second e.id ≡ true)
      go (inl r) = kind-first first (λ b n. found_own once₁ n) e r
      go (inr r) = kind-second second (λ b n. found_own once₂ n) e r

pub exactly_once : ExactlyOnce
unfolding entries_in differs
exactly_once f s p q id = counted (bodies_of f) (bodies_of s) (ids_once f p) (ids_once s q) id

pub kind_right : KindRight
unfolding entries_in differs
kind_right f s p q e m = kinds (bodies_of f) (bodies_of s) (ids_once f p) (ids_once s q) e m

pub order : Order
unfolding entries_in differs
order f s p q = ordered (bodies_of f) (bodies_of s) (ids_once f p) (ids_once s q)
