-- 31 is given for the domain label, and for no other.
use Prim.Native.Nat.{ℕ}
use mathlib.Core.Path.{◌≡◌, refl}
use mathlib.Core.Bool.{Bool, true, false, not}
use native.Mathlib.Omega.{arith}
use Rattle.refusal.specs.Checks.{unless}
use Rattle.refusal.proofs.Passing.{test_passed, test_holds}
use Rattle.slices.specs.Same.{same_list}
use Rattle.slices.proofs.Same.{same_exactly}
use Rattle.labels.specs.FixedLabels.{dsrk_label}
use Rattle.labels.specs.Checks.{check31}
use Rattle.labels.specs.Statements.{DomainLabelAlone}

pub domain_label_alone : DomainLabelAlone
unfolding check31 unless
domain_label_alone label = (
  λ e same. passed-not _ (test_passed _ _ e) ((same_exactly label dsrk_label).1 same),
  λ other. test_holds _ _ (apart (same_list label dsrk_label) (λ e. other ((same_exactly label dsrk_label).0 e))),
)
  where
    passed-not : (b : Bool) → not b ≡ true → b ≡ true → ⊥
    passed-not b n e = let absurdly : ◌≡◌ {A = ℕ} 1 0 = cc in omega (arith, absurdly)

    apart : (b : Bool) → (b ≡ true → ⊥) → not b ≡ true
    apart true ne = absurd (ne refl)
    apart false ne = refl
