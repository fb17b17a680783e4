-- Usage keys are separated. The last byte of a block's input gives the block number; the block before it has one length for one number, so
-- the texts are equal; the first zero byte of a text ends its label, since no accepted label holds one; its last two bytes give the length.
use Prim.Native.Nat.{ℕ, zero, suc, ◌≤◌, ◌/◌, ◌%◌, ◌^◌}
use mathlib.Core.Path.{◌≡◌, refl, ap}
use mathlib.Core.Bool.{Bool, true, false}
use mathlib.Core.List.{List, [], ◌∷◌, ◌++◌}
use native.Mathlib.Nat.{not-suc-le-zero}
use native.Mathlib.Omega.{arith}
use Rattle.refusal.specs.Checks.{within}
use Rattle.slices.proofs.Truth.{and_left, and_right}
use Rattle.labels.specs.Bytes.{every, label_byte}
use Rattle.hmac.specs.Rfc2104.{hmac_sha256}
use Rattle.hmac.proofs.Laws.{hmac_sha256-length}
use Rattle.prf_plus.proofs.Lists.{cancel_back}
use Rattle.prf_plus.proofs.Laws.{input_apart}
use Rattle.requests.specs.Rfc5295.{usage_text}
use Rattle.requests.specs.Requests.{label_of, data_of, length_of, text_of, input_of}
use Rattle.requests.specs.Statements.{Separated, UsageTextExample}
use Rattle.requests.proofs.Accepting.{sound}

-- z fails the test, and every element of s₁ and s₂ passes it: the first z ends both
pub split-first : (p : ℕ → Bool) (z : ℕ) → p z ≡ false → (s₁ s₂ t₁ t₂ : List ℕ) → every p s₁ ≡ true → every p s₂ ≡ true → s₁ ++ (z ∷ t₁) ≡ s₂ ++ (z ∷ t₂) → (s₁ ≡ s₂) × (t₁ ≡ t₂)
unfolding every
split-first p z hz [] [] t₁ t₂ h₁ h₂ e = (refl, cc)
split-first p z hz [] (y ∷ s₂) t₁ t₂ h₁ h₂ e = let hy = and_left (p y) (every p s₂) h₂ in let same : z ≡ y = cc in (cc, cc)
split-first p z hz (x ∷ s₁) [] t₁ t₂ h₁ h₂ e = let hx = and_left (p x) (every p s₁) h₁ in let same : z ≡ x = cc in (cc, cc)
split-first p z hz (x ∷ s₁) (y ∷ s₂) t₁ t₂ h₁ h₂ e =
    let same : x ≡ y = cc in
    let rest : s₁ ++ (z ∷ t₁) ≡ s₂ ++ (z ∷ t₂) = cc in
    let r = split-first p z hz s₁ s₂ t₁ t₂ (and_right (p x) (every p s₁) h₁) (and_right (p y) (every p s₂) h₂) rest in
    (cc, r.1)

-- two texts are equal only where label, data and length are
pub text_apart : (l₁ l₂ d₁ d₂ : List ℕ) (n₁ n₂ : ℕ) → every label_byte l₁ ≡ true → every label_byte l₂ ≡ true → n₁ ≤ 8160 → n₂ ≤ 8160
    → usage_text l₁ d₁ n₁ ≡ usage_text l₂ d₂ n₂ → (l₁ ≡ l₂) × (d₁ ≡ d₂) × (n₁ ≡ n₂)
unfolding usage_text label_byte within
text_apart l₁ l₂ d₁ d₂ n₁ n₂ h₁ h₂ b₁ b₂ e =
    let label = split-first label_byte 0 refl l₁ l₂ _ _ h₁ h₂ e in
    let back = cancel_back d₁ d₂ _ _ refl label.1 in
    let high : n₁ / 2 ^ 8 % 256 ≡ n₂ / 2 ^ 8 % 256 = cc in
    let low : n₁ % 256 ≡ n₂ % 256 = cc in
    (label.0, back.0, omega arith)

pub separated : Separated
unfolding input_of text_of
separated emsk r₁ r₂ a₁ a₂ zero j b₁ b₂ = absurd (not-suc-le-zero b₁.0)
separated emsk r₁ r₂ a₁ a₂ (suc i) zero b₁ b₂ = absurd (not-suc-le-zero b₂.0)
separated emsk r₁ r₂ a₁ a₂ (suc i) (suc j) b₁ b₂ = (
  λ e.
      let s = input_apart hmac_sha256 hmac_sha256-length emsk emsk (text_of r₁) (text_of r₂) i j e in
      let g₁ = sound emsk r₁ a₁ in
      let g₂ = sound emsk r₂ a₂ in
      let t = text_apart (label_of r₁) (label_of r₂) (data_of r₁) (data_of r₂) (length_of r₁) (length_of r₂) g₁.label g₂.label g₁.high g₂.high s.0 in
      (t.0, t.1, t.2, ap suc s.1),
  λ h. let l = h.0 in let d = h.1 in let n = h.2 in let k = h.3 in cc,
)

pub usage_text_example : UsageTextExample
unfolding text_of usage_text
usage_text_example room = (refl, refl)
