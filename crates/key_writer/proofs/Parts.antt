-- The header's bytes put in place one part after the other.
use Prim.Native.Nat.{ℕ, ◌+◌}
use mathlib.Core.Path.{◌≡◌, refl, ◌∙◌}
use mathlib.Core.List.{List, [], ◌∷◌, ◌++◌, append_assoc}
use native.Mathlib.Omega.{arith}
use lib.ListN.{length, take, drop, length-append}
use Rattle.slices.specs.Numbers.{be32}
use Rattle.rfc3394.specs.Rfc3394.{initial_value}
use Rattle.key_frame.specs.KeyFrame.{header}
use Rattle.key_frame.specs.declared.KeyFields.{KeyFields}
use Rattle.key_frame.proofs.Parts.{next_part}

regroup : (a b c d e f w : List ℕ) → (a ++ b ++ c ++ d ++ e ++ f) ++ w ≡ (a ++ (b ++ (c ++ (d ++ (e ++ f))))) ++ w
regroup a b c d e f w = simp append_assoc

-- the six parts of a header, as they are put in place one after the other
module _ (f : KeyFields) (n : ℕ) (four₁ four₂ l₀ l₁ l₂ l₃ l₄ l₅ l₆ : List ℕ) where
  pub header-parts : length f.kek_id ≡ 16 → length f.key_id ≡ 16 → four₁ ≡ be32 f.app_id → four₂ ≡ be32 f.lifetime
      → l₁ ≡ take 0 l₀ ++ ((f.attribute_type ∷ n ∷ 0 ∷ 0 ∷ []) ++ drop 4 l₀)
      → l₂ ≡ take 4 l₁ ++ (four₁ ++ drop (4 + length four₁) l₁)
      → l₃ ≡ take 8 l₂ ++ (f.kek_id ++ drop (8 + length f.kek_id) l₂)
      → l₄ ≡ take 24 l₃ ++ (f.key_id ++ drop (24 + length f.key_id) l₃)
      → l₅ ≡ take 40 l₄ ++ (four₂ ++ drop (40 + length four₂) l₄)
      → l₆ ≡ take 44 l₅ ++ (initial_value ++ drop 52 l₅)
      → l₆ ≡ header f n ++ drop 52 l₀
  unfolding header
  header-parts hk hy f₁ f₂ e₁ e₂ e₃ e₄ e₅ e₆ =
      let start : List ℕ = f.attribute_type ∷ n ∷ 0 ∷ 0 ∷ [] in
      let a : List ℕ = be32 f.app_id in
      let b : List ℕ = be32 f.lifetime in
      let p₂ = next_part l₀ start a l₁ l₂ 4 4 refl e₁ (rw f₁ at e₂) in
      let p₃ = next_part l₀ (start ++ a) f.kek_id l₂ l₃ 8 16 refl p₂ (rw hk at e₃) in
      let p₄ = next_part l₀ (start ++ a ++ f.kek_id) f.key_id l₃ l₄ 24 16 (simp length-append (omega arith)) p₃ (rw hy at e₄) in
      let p₅ = next_part l₀ (start ++ a ++ f.kek_id ++ f.key_id) b l₄ l₅ 40 4 (simp length-append (omega arith)) p₄ (rw f₂ at e₅) in
      let p₆ = next_part l₀ (start ++ a ++ f.kek_id ++ f.key_id ++ b) initial_value l₅ l₆ 44 8 (simp length-append (omega arith)) p₅ e₆ in
      p₆ ∙ regroup start a f.kek_id f.key_id b initial_value (drop 52 l₀)
