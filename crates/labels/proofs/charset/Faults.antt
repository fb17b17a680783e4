-- What the test of a text comes to as a test by number, where its faults are given their refusals.
use Prim.Native.Nat.{ℕ}
use mathlib.Core.Path.{◌≡◌, refl, ap, ◌∙◌}
use mathlib.Core.Bool.{Bool, true, false, cond, ◌&&◌}
use mathlib.Core.List.{List}
use lib.ListN.{length}
use Rattle.std.specs.Prelude.{⊤, Option, None, Some, is_none, Result, Ok, Err, MatchResult, IsErrAnd}
use Rattle.refusal.specs.Checks.{Check, pass, refuse, bare, unless, ◌and_then◌, within}
use Rattle.refusal.specs.Answers.{reason_of, checked_as}
use Rattle.refusal.specs.declared.Refusal.{Refusal}
use Rattle.refusal.specs.declared.Refusal.TheVariants.{LabelLength, LabelByte}
use Rattle.labels.specs.declared.charset.TextFault.{TextFault}
use Rattle.labels.specs.declared.charset.TextFault.TheVariants.{WrongLength, BadByte}
use Rattle.labels.specs.Bytes.{every, label_byte, first_bad}
use Rattle.labels.specs.Checks.{check2, check3, scanned3}
use Rattle.labels.specs.Internal.{scan_form, text_form}
use Rattle.labels.proofs.charset.Forms.{none_bad}

-- each fault is refused as `why` says
fault_check : (TextFault → Refusal) → Result ⊤ TextFault → Check
fault_check why (Ok x) = pass
fault_check why (Err e) = refuse (reason_of (why e))

mapped : (why : TextFault → Refusal) (t : Result ⊤ TextFault) (r : Result ⊤ Refusal) {P : TextFault → Refusal → Type 0}
    → MatchResult t (λ x. r ≡ Ok x) (λ e. IsErrAnd r (P e)) → ((e : TextFault) (y : Refusal) → P e y → y ≡ why e)
    → checked_as r ≡ fault_check why t
unfolding fault_check
mapped why (Ok x) r m k = ap checked_as m
mapped why (Err e) (Ok x) m k = absurd m
mapped why (Err e) (Err y) m k = ap (λ (z : Refusal). refuse (reason_of z)) (k e y m)

-- the refusals of a label
abbrev pub label_fault : TextFault → Refusal
label_fault WrongLength = LabelLength
label_fault (BadByte i) = LabelByte i

label_tests : (label : List ℕ) → fault_check label_fault (text_form label_byte 255 label) ≡ (check2 label and_then check3 label)
unfolding fault_check text_form unless
label_tests label = go (within 1 255 (length label)) (first_bad label_byte label)
  where
    go : (t : Bool) (f : Option ℕ) → fault_check label_fault (cond t (scan_form f) (Err WrongLength)) ≡ (unless t (bare 2) and_then scanned3 f)
    go true None = refl
    go true (Some i) = refl
    go false f = refl

-- one refusal for all faults: the text is well formed, or it is refused
one_test : (p : ℕ → Bool) (longest : ℕ) (s : List ℕ) (why : Refusal)
    → fault_check (λ _. why) (text_form p longest s) ≡ unless (within 1 longest (length s) && every p s) (reason_of why)
unfolding fault_check text_form unless
one_test p longest s why = rw (← none_bad p s) (go (within 1 longest (length s)) (first_bad p s))
  where
    go : (t : Bool) (f : Option ℕ) → fault_check (λ _. why) (cond t (scan_form f) (Err WrongLength)) ≡ unless (t && is_none f) (reason_of why)
    go true None = refl
    go true (Some i) = refl
    go false f = refl

-- the same of the test's result t, to which a closure gives the refusals
pub label_refused : (label : List ℕ) {t : Result ⊤ TextFault} (r : Result ⊤ Refusal) {P : TextFault → Refusal → Type 0} → t ≡ text_form label_byte 255 label
    → MatchResult t (λ x. r ≡ Ok x) (λ e. IsErrAnd r (P e)) → ((e : TextFault) (y : Refusal) → P e y → y ≡ label_fault e)
    → checked_as r ≡ (check2 label and_then check3 label)
label_refused label {t} r e m k = mapped label_fault t r m k ∙ ap (fault_check label_fault) e ∙ label_tests label

pub one_refused : (p : ℕ → Bool) (longest : ℕ) (s : List ℕ) (why : Refusal) {t : Result ⊤ TextFault} (r : Result ⊤ Refusal) {P : TextFault → Refusal → Type 0}
    → t ≡ text_form p longest s
    → MatchResult t (λ x. r ≡ Ok x) (λ e. IsErrAnd r (P e)) → ((e : TextFault) (y : Refusal) → P e y → y ≡ why)
    → checked_as r ≡ unless (within 1 longest (length s) && every p s) (reason_of why)
one_refused p longest s why {t} r e m k = mapped (λ _. why) t r m k ∙ ap (fault_check (λ _. why)) e ∙ one_test p longest s why
