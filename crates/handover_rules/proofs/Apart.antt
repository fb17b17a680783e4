-- Requests with different identifiers hand different bytes to HMAC. The first two bytes of an input give the iteration; one label has one length, and
-- so the contexts stand in the same place; the lengths of the identifiers take these apart.
use Prim.Native.Nat.{ℕ, ◌%◌}
use mathlib.Core.Path.{◌≡◌, refl, sym, ap, ◌∙◌}
use mathlib.Core.List.{List, ◌++◌}
use native.Mathlib.Omega.{arith}
use lib.ListN.{length, take, drop, get_or, length-append}
use lib.Seq.{take_at, drop_at}
use Rattle.handover_rules.specs.Kdf.{kdf_input, iterations}
use Rattle.handover_rules.specs.Handover.{r0_label, r1_label, r0_context, r1_context, r0_input, r1_input}
use Rattle.handover_rules.specs.Statements.{Iteration, R0Apart, R1Apart, NeverShared}
use Rattle.handover_rules.proofs.Accepting.{r0_lengths, r1_lengths}

-- two joined lists that are equal, with fronts of n elements: the fronts are equal, and so is the rest
split : (n : ℕ) (s₁ s₂ t₁ t₂ : List ℕ) → length s₁ ≡ n → length s₂ ≡ n → s₁ ++ t₁ ≡ s₂ ++ t₂ → (s₁ ≡ s₂) × (t₁ ≡ t₂)
split n s₁ s₂ t₁ t₂ l₁ l₂ e = (
  sym (take_at s₁ t₁ n l₁) ∙ ap (take n) e ∙ take_at s₂ t₂ n l₂,
  sym (drop_at s₁ t₁ n l₁) ∙ ap (drop n) e ∙ drop_at s₂ t₂ n l₂,
)

-- the low byte of an iteration's number is the number
numbers_apart : (i j : ℕ) → Iteration i → Iteration j → i % 256 ≡ j % 256 → i ≡ j
unfolding iterations
numbers_apart i j (_, b) (_, d) e = omega arith

-- two inputs with one label and with contexts of n bytes: the iterations and the contexts are equal
inputs_apart : (label c₁ c₂ : List ℕ) (n i j : ℕ) → length c₁ ≡ n → length c₂ ≡ n → Iteration i → Iteration j → kdf_input label c₁ 256 i ≡ kdf_input label c₂ 256 j
    → (c₁ ≡ c₂) × (i ≡ j)
unfolding kdf_input
inputs_apart label c₁ c₂ n i j l₁ l₂ b₁ b₂ e =
    let low : i % 256 ≡ j % 256 = cc in
    let back = ap (drop 1) (split (length label) label label _ _ refl refl (ap (drop 2) e)).1 in
    ((split n c₁ c₂ _ _ l₁ l₂ back).0, numbers_apart i j b₁ b₂ low)

pub r0_apart : R0Apart
unfolding r0_input
r0_apart rrk ad₁ ad₂ spa₁ spa₂ room₁ room₂ i j a₁ a₂ b₁ b₂ = (
  λ e.
      let l₁ = r0_lengths rrk ad₁ spa₁ room₁ a₁ in
      let l₂ = r0_lengths rrk ad₂ spa₂ room₂ a₂ in
      let n₁ : length (r0_context ad₁ spa₁) ≡ 22 = omega (arith, length-append ad₁ spa₁) in
      let n₂ : length (r0_context ad₂ spa₂) ≡ 22 = omega (arith, length-append ad₂ spa₂) in
      let both = inputs_apart r0_label (r0_context ad₁ spa₁) (r0_context ad₂ spa₂) 22 i j n₁ n₂ b₁ b₂ e in
      let ids = split 16 ad₁ ad₂ spa₁ spa₂ l₁.1 l₂.1 both.0 in
      (ids.0, ids.1, both.1),
  λ h. let a = h.0 in let s = h.1 in let n = h.2 in cc,
)

pub r1_apart : R1Apart
unfolding r1_input
r1_apart r0 ad₁ ad₂ an₁ an₂ spa₁ spa₂ room₁ room₂ i j a₁ a₂ b₁ b₂ = (
  λ e.
      let l₁ = r1_lengths r0 ad₁ an₁ spa₁ room₁ a₁ in
      let l₂ = r1_lengths r0 ad₂ an₂ spa₂ room₂ a₂ in
      let n₁ : length (r1_context ad₁ an₁ spa₁) ≡ 38 = omega (arith, length-append ad₁ (an₁ ++ spa₁), length-append an₁ spa₁) in
      let n₂ : length (r1_context ad₂ an₂ spa₂) ≡ 38 = omega (arith, length-append ad₂ (an₂ ++ spa₂), length-append an₂ spa₂) in
      let both = inputs_apart r1_label (r1_context ad₁ an₁ spa₁) (r1_context ad₂ an₂ spa₂) 38 i j n₁ n₂ b₁ b₂ e in
      let first = split 16 ad₁ ad₂ (an₁ ++ spa₁) (an₂ ++ spa₂) l₁.1 l₂.1 both.0 in
      let second = split 16 an₁ an₂ spa₁ spa₂ l₁.2 l₂.2 first.1 in
      (first.0, second.0, second.1, both.1),
  λ h. let a = h.0 in let b = h.1 in let s = h.2 in let n = h.3 in cc,
)

-- the second letters of the labels stand at byte 3, and they differ
pub never_shared : NeverShared
unfolding r0_input r1_input kdf_input r0_label r1_label
never_shared ad₁ spa₁ ad₂ an₂ spa₂ i j e = let differ : ◌≡◌ {A = ℕ} 0x30 0x31 = ap (λ (l : List ℕ). get_or l 3 0) e in omega arith
