-- What changed between two bundles (document 02, request 10): entries of a kind (1) and a Key ID (16).
-- 1: only in the first;  2: in both, and the attributes differ;  3: only in the second. The first two come mixed in the first bundle's order, then
-- the third in the second's.
use Rattle.std.specs.Prelude.{ℕ, ◌+◌, ◌*◌, cond, List, [], ◌∷◌, ◌++◌, eqb, length}
use Rattle.refusal.specs.Checks.{Check, pass, refuse, ◌and_then◌, check6}
use Rattle.refusal.specs.Answers.{Answer, answer_to, buffer_after}
use Rattle.slices.specs.Same.{same_list}
use Rattle.bundle_rules.specs.Bundle.{key_id_in, bodies_of, bundle_check}

-- the attribute of a Key ID among those of a bundle
pub data Found : Type 0 where
  missing : Found
  found : List ℕ → Found

unfoldable pub lookup : List ℕ → List (List ℕ) → Found
lookup id [] = missing
lookup id (b ∷ bodies) = cond (same_list (key_id_in b) id) (found b) (lookup id bodies)

-- the kind of an attribute of the first bundle, by what the second has for its Key ID, and of one of the second, by what the first has; 0 where it is not listed
abbrev pub kind_in_first : List ℕ → Found → ℕ
kind_in_first b missing = 1
kind_in_first b (found other) = cond (same_list b other) 0 2

abbrev pub kind_in_second : Found → ℕ
kind_in_second missing = 3
kind_in_second (found b) = 0

pub record Entry : Type 0 where
  pub kind : ℕ
  pub id : List ℕ

-- an entry before others, none for kind 0
unfoldable pub listed : ℕ → List ℕ → List Entry → List Entry
listed kind id more = cond (eqb kind 0) more (record { kind = kind; id = id } ∷ more)

unfoldable pub first_entries : List (List ℕ) → List (List ℕ) → List Entry
first_entries second [] = []
first_entries second (b ∷ bodies) = listed (kind_in_first b (lookup (key_id_in b) second)) (key_id_in b) (first_entries second bodies)

unfoldable pub second_entries : List (List ℕ) → List (List ℕ) → List Entry
second_entries first [] = []
second_entries first (b ∷ bodies) = listed (kind_in_second (lookup (key_id_in b) first)) (key_id_in b) (second_entries first bodies)

unfoldable pub entries : List (List ℕ) → List (List ℕ) → List Entry
entries first second = first_entries second first ++ second_entries first second

-- the entries' bytes
unfoldable pub written : List Entry → List ℕ
written [] = []
written (e ∷ more) = (e.kind ∷ e.id) ++ written more

-- how many are of a kind
unfoldable pub count_kind : ℕ → List Entry → ℕ
count_kind k [] = 0
count_kind k (e ∷ more) = cond (eqb e.kind k) 1 0 + count_kind k more

-- ---- the call, over the two files

unfoldable pub entries_in : List ℕ → List ℕ → List Entry
entries_in first second = entries (bodies_of first) (bodies_of second)

abbrev pub entries_length : List ℕ → List ℕ → ℕ
entries_length first second = 17 * length (entries_in first second)

-- the order: the first bundle's refusals without its 6, the second's likewise, then 6
unfoldable pub compare_check : List ℕ → List ℕ → ℕ → Check
compare_check first second room = bundle_check first and_then bundle_check second and_then check6 (entries_length first second) room

unfoldable pub compare_answer : List ℕ → List ℕ → ℕ → Answer
compare_answer first second room = answer_to (compare_check first second room) (entries_length first second)

unfoldable pub compare_buffer : List ℕ → List ℕ → List ℕ → List ℕ
compare_buffer first second out = buffer_after (compare_check first second (length out)) (entries_length first second) (written (entries_in first second)) out

-- the three counts returned beside the answer, zeros on a refusal
pub record Tally : Type 0 where
  pub only_first : ℕ
  pub changed : ℕ
  pub only_second : ℕ

abbrev pub counts_to : Check → List Entry → Tally
counts_to pass e = record { only_first = count_kind 1 e; changed = count_kind 2 e; only_second = count_kind 3 e }
counts_to (refuse x) e = record { only_first = 0; changed = 0; only_second = 0 }

unfoldable pub compare_counts : List ℕ → List ℕ → ℕ → Tally
compare_counts first second room = counts_to (compare_check first second room) (entries_in first second)
