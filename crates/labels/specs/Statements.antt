-- What is proved of a label's tests (document 02, requests 1, 6 and 7). The proofs are in proofs/Labels.antt, proofs/DomainLabel.antt and
-- proofs/syntax/Breaches.antt.
use Rattle.std.specs.Prelude.{ℕ, ◌-◌, ◌<◌, ◌≡◌, true, false, ◌↔◌, List, length, get_or}
use Prim.Native.Char.{code}
use Rattle.refusal.specs.Checks.{pass, refuse, located, within}
use Rattle.labels.specs.Bytes.{label_byte}
use Rattle.labels.specs.Syntax.{breaches}
use Rattle.labels.specs.FixedLabels.{vrk_label, visited_reauth_label, dsrk_label, rrk_label}
use Rattle.labels.specs.Checks.{label_check, check31}

-- A label is refused with 3 at place i exactly when its length is 1 to 255 and i, counted from 0, is the position of its first bad byte
abbrev pub LabelPlace : Type 0
LabelPlace =
    (label : List ℕ) (i : ℕ)
    → (label_check label ≡ refuse (located 3 i))
    ↔ ((within 1 255 (length label) ≡ true) × (i < length label) × (label_byte (get_or label i 0) ≡ false) × ((j : ℕ) → j < i → label_byte (get_or label j 0) ≡ true))

-- A byte stands in a text: at some position; twice: at two
abbrev pub Has : ℕ → List ℕ → Type 0
Has b s = (i : ℕ) × (i < length s) × (get_or s i 0 ≡ b)

abbrev pub Twice : ℕ → List ℕ → Type 0
Twice b s = (i : ℕ) × (j : ℕ) × (i < j) × (j < length s) × (get_or s i 0 ≡ b) × (get_or s j 0 ≡ b)

-- The breaches of request 7, one by one. The test finds exactly these
pub data Breach (label : List ℕ) : Type 0 where
  space : Has (code " ") label → Breach label
  comma : Has (code ",") label → Breach label
  long_without_at : 64 < length label → (Has (code "@") label → ⊥) → Breach label
  second_at : Twice (code "@") label → Breach label
  at_first : get_or label 0 0 ≡ code "@" → Breach label
  at_last : get_or label (length label - 1) 0 ≡ code "@" → Breach label

abbrev pub BreachesExactly : Type 0
BreachesExactly = (label : List ℕ) → (breaches label ≡ true) ↔ Breach label

-- Every fixed label passes the tests of a label
abbrev pub FixedLabelsPass : Type 0
FixedLabelsPass = (label_check vrk_label ≡ pass) × (label_check visited_reauth_label ≡ pass) × (label_check dsrk_label ≡ pass) × (label_check rrk_label ≡ pass)

-- 31 is given for the domain label, and for no other
abbrev pub DomainLabelAlone : Type 0
DomainLabelAlone = (label : List ℕ) → (check31 label ≡ pass) ↔ (label ≡ dsrk_label → ⊥)
