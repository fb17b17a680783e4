-- Two joined lists that are equal, cancelled by the length of the front or by that of the back: each part is `take` or `drop` at that length.
use Prim.Native.Nat.{ℕ}
use mathlib.Core.Path.{◌≡◌, refl, sym, ap, ◌∙◌}
use mathlib.Core.List.{List, ◌++◌}
use native.Mathlib.Omega.{arith}
use lib.ListN.{length, take, drop, length-append}
use lib.Seq.{take_at, drop_at}

pub cancel_front : (s₁ s₂ t₁ t₂ : List ℕ) → length s₁ ≡ length s₂ → s₁ ++ t₁ ≡ s₂ ++ t₂ → (s₁ ≡ s₂) × (t₁ ≡ t₂)
cancel_front s₁ s₂ t₁ t₂ l e = (
  sym (take_at s₁ t₁ _ l) ∙ ap (take (length s₂)) e ∙ take_at s₂ t₂ _ refl,
  sym (drop_at s₁ t₁ _ l) ∙ ap (drop (length s₂)) e ∙ drop_at s₂ t₂ _ refl,
)

pub cancel_back : (s₁ s₂ t₁ t₂ : List ℕ) → length t₁ ≡ length t₂ → s₁ ++ t₁ ≡ s₂ ++ t₂ → (s₁ ≡ s₂) × (t₁ ≡ t₂)
cancel_back s₁ s₂ t₁ t₂ l e = cancel_front s₁ s₂ t₁ t₂ (omega (arith, simp length-append at (ap length e))) e
