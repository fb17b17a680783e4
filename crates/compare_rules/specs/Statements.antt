-- What is proved of comparing two bundles. The proofs are in proofs/.
use Rattle.std.specs.Prelude.{ℕ, zero, suc, ◌+◌, ◌*◌, ◌≡◌, Bool, true, false, not, cond, eqb, length, drop, get_or}
use mathlib.Core.List.{List, [], ◌∷◌, ◌++◌, map, Memᴰ}
use Rattle.refusal.specs.Checks.{pass}
use Rattle.refusal.specs.Answers.{returned}
use Rattle.slices.specs.Same.{same_list}
use Rattle.bundle_rules.specs.Bundle.{key_id_in, id_stands, bodies_of, bundle_check}
use Rattle.compare_rules.specs.Compare.{Found, missing, found, lookup, Entry, entries_in, compare_answer, compare_buffer, Tally, compare_counts}

-- what two bundles have for one Key ID: the same, where neither has it or both have the same bytes
abbrev pub same_found : Found → Found → Bool
same_found missing missing = true
same_found missing (found b) = false
same_found (found a) missing = false
same_found (found a) (found b) = same_list a b

-- a Key ID differs between two files
unfoldable pub differs : List ℕ → List ℕ → List ℕ → Bool
differs first second id = not (same_found (lookup id (bodies_of first)) (lookup id (bodies_of second)))

-- the kind of a Key ID that differs
abbrev pub kind_of : Found → Found → ℕ
kind_of (found a) missing = 1
kind_of (found a) (found b) = 2
kind_of missing (found b) = 3
kind_of missing missing = 0

-- how often a Key ID stands in a list
unfoldable pub times : List ℕ → List (List ℕ) → ℕ
times id [] = 0
times id (x ∷ ids) = cond (same_list x id) 1 0 + times id ids

-- those that pass a test, in their order
unfoldable pub keep : (List ℕ → Bool) → List (List ℕ) → List (List ℕ)
keep test [] = []
keep test (x ∷ ids) = cond (test x) (x ∷ keep test ids) (keep test ids)

abbrev pub ids_listed : List Entry → List (List ℕ)
ids_listed entries = map (λ (e : Entry). e.id) entries

-- the Key IDs of a file's attributes, in its order
abbrev pub ids_in : List ℕ → List (List ℕ)
ids_in file = map key_id_in (bodies_of file)

-- each Key ID that differs is listed exactly once, and none that agrees is
abbrev pub ExactlyOnce : Type 0
ExactlyOnce =
    (first second : List ℕ) → bundle_check first ≡ pass → bundle_check second ≡ pass
    → (id : List ℕ) → times id (ids_listed (entries_in first second)) ≡ cond (differs first second id) 1 0

-- with its kind
abbrev pub KindRight : Type 0
KindRight =
    (first second : List ℕ) → bundle_check first ≡ pass → bundle_check second ≡ pass
    → (e : Entry) → Memᴰ e (entries_in first second)
    → (e.kind ≡ kind_of (lookup e.id (bodies_of first)) (lookup e.id (bodies_of second))) × (differs first second e.id ≡ true)

-- those of the first bundle come in its order, then in the second's order those that only it has
abbrev pub Order : Type 0
Order =
    (first second : List ℕ) → bundle_check first ≡ pass → bundle_check second ≡ pass
    → ids_listed (entries_in first second) ≡ keep (differs first second) (ids_in first) ++ keep (λ (id : List ℕ). not (id_stands id (ids_in first))) (ids_in second)

-- how many of m entries, of 17 bytes each, are of a kind
unfoldable pub kinds_in : ℕ → ℕ → List ℕ → ℕ
kinds_in k zero bytes = 0
kinds_in k (suc m) bytes = cond (eqb (get_or bytes 0 0) k) 1 0 + kinds_in k m (drop 17 bytes)

abbrev pub total : Tally → ℕ
total c = c.only_first + c.changed + c.only_second

-- the counts returned are those of the list that is written: all its entries, and the entries of each kind
abbrev pub Counts : Type 0
Counts =
    (first second out : List ℕ) (n : ℕ) (c : Tally)
    → compare_answer first second (length out) ≡ returned n
    → compare_counts first second (length out) ≡ c
    → (n ≡ 17 * total c)
    × (c.only_first ≡ kinds_in 1 (total c) (compare_buffer first second out))
    × (c.changed ≡ kinds_in 2 (total c) (compare_buffer first second out))
    × (c.only_second ≡ kinds_in 3 (total c) (compare_buffer first second out))
