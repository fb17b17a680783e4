-- What is proved of a label's tests, and what a label that passes them keeps to.
use Prim.Native.Nat.{ℕ, ◌≤◌}
use mathlib.Core.Path.{◌≡◌, refl, sym, ◌∙◌}
use mathlib.Core.Bool.{Bool, true, false, not, ◌||◌}
use mathlib.Core.List.{List}
use lib.ListN.{length}
use Rattle.std.specs.Prelude.{Option, None, Some, is_none}
use Rattle.refusal.specs.Checks.{pass, refuse, bare, located, unless, ◌and_then◌, within}
use Rattle.refusal.proofs.Passing.{before-passed, last-passed, test_passed, within_low, within-high}
use Rattle.slices.specs.Same.{same_list}
use Rattle.labels.specs.Bytes.{every, label_byte, first_bad}
use Rattle.labels.proofs.charset.Forms.{first-place, none_bad}
use Rattle.labels.specs.FixedLabels.{vrk_label, visited_reauth_label, dsrk_label, rrk_label, exempt}
use Rattle.labels.specs.Syntax.{breaches}
use Rattle.labels.specs.Checks.{scanned3, label_check, check32}
use Rattle.labels.specs.Statements.{LabelPlace, FixedLabelsPass}

-- 32 is not 3
by_syntax : (i : ℕ) (t : Bool) {f : Option ℕ} → unless t (bare 32) ≡ refuse (located 3 i) → f ≡ Some i
unfolding unless
by_syntax i true e = cc
by_syntax i false e = cc

-- 3 is given at place i exactly when the length holds and the first bad byte is at i
pub label_place : LabelPlace
unfolding label_check check32 unless
label_place label i = (
  λ e.
      let h = told (within 1 255 (length label)) (first_bad label_byte label) e in
      let f = (first-place label_byte label i).0 h.1 in
      (h.0, f.0, f.1, f.2),
  λ h. let scan = (first-place label_byte label i).1 (h.1, h.2, h.3) in rw (h.0, scan),
)
  where
    told : (t : Bool) (f : Option ℕ) → (unless t (bare 2) and_then scanned3 f and_then check32 label) ≡ refuse (located 3 i) → (t ≡ true) × (f ≡ Some i)
    told true None e = (refl, by_syntax i (not (breaches label) || exempt label) e)
    told true (Some k) e = (refl, cc)
    told false f e = (cc, cc)

pub fixed_labels_pass : FixedLabelsPass
unfolding label_check check32 breaches exempt same_list unless within label_byte vrk_label visited_reauth_label dsrk_label rrk_label
fixed_labels_pass = (refl, refl, refl, refl)

-- a scan that lets a label pass found no bad byte
scan-passed : (f : Option ℕ) → scanned3 f ≡ pass → is_none f ≡ true
scan-passed None e = refl
scan-passed (Some i) e = cc

-- what a label that passes keeps to
pub record GoodLabel (label : List ℕ) : Type 0 where
  pub low : 1 ≤ length label
  pub high : length label ≤ 255
  pub bytes : every label_byte label ≡ true

pub good_label : (label : List ℕ) → label_check label ≡ pass → GoodLabel label
unfolding label_check
good_label label a =
    let b = before-passed _ _ a in
    let t = test_passed _ _ (before-passed _ _ b) in
    record { low = within_low _ _ _ t; high = within-high _ _ _ t; bytes = sym (none_bad label_byte label) ∙ scan-passed (first_bad label_byte label) (last-passed _ _ b) }
