-- Laws of the expansion, each once over the key, the text and the MAC; those on lengths over any MAC whose results have 32 bytes.
use Prim.Native.Nat.{ℕ, zero, suc, ◌+◌, ◌*◌, ◌/◌, ◌≤◌}
use mathlib.Core.Path.{◌≡◌, refl, sym, ap, ◌∙◌}
use mathlib.Core.List.{List, [], ◌∷◌, ◌++◌, append_assoc}
use native.Mathlib.Omega.{arith}
use lib.ListN.{length, length-append}
use lib.Seq.{length-take-le}
use Rattle.prf_plus.specs.PrfPlus.{input_after, block_count, block, block_input, blocks, prf_plus_of}
use Rattle.prf_plus.specs.Statements.{TwoCases}
use Rattle.prf_plus.proofs.Lists.{cancel_front, cancel_back}

-- at most 255 blocks, so a block's number is a byte
pub count-le : (n : ℕ) → n ≤ 8160 → block_count n ≤ 255
unfolding block_count
count-le n h = omega arith

module _ (mac : List ℕ → List ℕ → List ℕ) where
  -- a block is the MAC of its input
  pub block_of_input : (key text : List ℕ) (i : ℕ) → block mac key text (suc i) ≡ mac key (block_input mac key text (suc i))
  unfolding block block_input
  block_of_input key text i = refl

  pub two_cases : TwoCases mac
  unfolding block input_after
  two_cases key text = (refl, λ i. refl)

  -- the input of block 1: the text, then 1
  pub first_input : (key text : List ℕ) → block_input mac key text 1 ≡ text ++ (1 ∷ [])
  unfolding block_input block input_after
  first_input key text = refl

  -- the input of a later block: the whole block before it, the text, then its number
  pub later_input : (key text : List ℕ) (i : ℕ) → block_input mac key text (suc (suc i)) ≡ block mac key text (suc i) ++ (text ++ (suc (suc i) ∷ []))
  unfolding block_input input_after
  later_input key text i = refl

module _ (mac : List ℕ → List ℕ → List ℕ) (mac-length : (k t : List ℕ) → length (mac k t) ≡ 32) where
  pub block-length : (key text : List ℕ) (i : ℕ) → length (block mac key text (suc i)) ≡ 32
  unfolding block
  block-length key text i = mac-length _ _

  pub blocks-length : (key text : List ℕ) (m : ℕ) → length (blocks mac key text m) ≡ 32 * m
  unfolding blocks
  blocks-length key text zero = refl
  blocks-length key text (suc m) = omega (arith, length-append (blocks mac key text m) (block mac key text (suc m)), blocks-length key text m, block-length key text m)

  pub prf_plus_of-length : (key text : List ℕ) (n : ℕ) → length (prf_plus_of mac key text n) ≡ n
  unfolding prf_plus_of block_count
  prf_plus_of-length key text n = length-take-le n _ (omega (arith, blocks-length key text ((n + 31) / 32)))

  -- the block before two blocks of one number has one length
  before-length : (key₁ key₂ text₁ text₂ : List ℕ) (i : ℕ) → length (block mac key₁ text₁ i) ≡ length (block mac key₂ text₂ i)
  unfolding block
  before-length key₁ key₂ text₁ text₂ zero = refl
  before-length key₁ key₂ text₁ text₂ (suc i) = block-length key₁ text₁ i ∙ sym (block-length key₂ text₂ i)

  -- equal inputs, under any two keys, are of one text and one block number
  pub input_apart : (key₁ key₂ text₁ text₂ : List ℕ) (i j : ℕ) → block_input mac key₁ text₁ (suc i) ≡ block_input mac key₂ text₂ (suc j) → (text₁ ≡ text₂) × (i ≡ j)
  unfolding block_input input_after
  input_apart key₁ key₂ text₁ text₂ i j e =
      let a = block mac key₁ text₁ i in
      let b = block mac key₂ text₂ j in
      let last = cancel_back (a ++ text₁) (b ++ text₂) (suc i ∷ []) (suc j ∷ []) refl (append_assoc a text₁ _ ∙ e ∙ sym (append_assoc b text₂ _)) in
      let same : i ≡ j = cc in
      ((cancel_front a b text₁ text₂ (ap (λ (k : ℕ). length (block mac key₁ text₁ k)) same ∙ before-length key₁ key₂ text₁ text₂ j) last.0).1, same)
