-- A step, a turn of a pass and a pass, over any way through the blocks. The premises are what the callees ensure.
use mathlib.Core.Path.{◌≡◌, sym, ap, ap₂, ◌∙◌}
use mathlib.Core.List.{List, [], ◌∷◌}
use Prim.Native.Nat.{ℕ, suc, ◌+◌, ◌*◌}
use native.Mathlib.Numerals.{add-one}
use native.Mathlib.Omega.{arith}
use borrow.Rule.Slice.PartMut.{mid_of, put_mid}
use lib.ListN.{get_or, take, drop}
use Rattle.fips197.specs.State.{State, bytes, columns}
use Rattle.rfc3394.specs.Rfc3394.{joined, high, low, block_at, with_block, Registers}
use Rattle.rfc3394.proofs.Steps.{registers≡}
use Rattle.keywrap_aes.specs.Internal.{stepped, walk, walks}

-- A | R[i], of A and of the block as the code has them
abbrev put_together : State → State → State
put_together a r = get_or a 0 [] ∷ get_or a 1 [] ∷ get_or r 0 [] ∷ get_or r 1 [] ∷ []

-- what a step that reads a state by its bytes makes of A and of the block b
pub step_by : (f : State → State) → ((s : State) → f s ≡ f (columns (bytes (λ (x : ℕ). x)) s)) → (a r s : State) (b : List ℕ) → high r ≡ b
    → s ≡ f (put_together a r) → s ≡ f (joined (high a) b)
step_by f by_bytes a r s b er es = es ∙ by_bytes (put_together a r) ∙ ap (λ (m : List ℕ). f (joined (high a) m)) er

module _ (f : ℕ → State → State) (x0 : Registers) where
  pub walk-more : (place : ℕ → ℕ) (c k i t at len : ℕ) (x b y z : List ℕ) → i ≡ place k → t ≡ c + i + 1 → at ≡ i * 8 → len ≡ 8
      → ◌≡◌ {A = Registers} (x, b) (walk f place c k x0)
      → y ≡ high (f t (joined x (mid_of at len b))) → z ≡ low (f t (joined x (mid_of at len b)))
      → ◌≡◌ {A = Registers} (y, put_mid at len b z) (walk f place c (k + 1) x0)
  unfolding walk
  walk-more place c k i t at len x b y z ei et ea el p q r =
      let m : mid_of at len b ≡ block_at i b = ap₂ (λ (m n : ℕ). take m (drop n b)) el ea in
      let n : t ≡ c + suc i = omega (arith, et) in
      let s : f t (joined x (mid_of at len b)) ≡ f (c + suc i) (joined x (block_at i b)) = ap₂ (λ (m : ℕ) (l : List ℕ). f m (joined x l)) n m in
      registers≡ (q ∙ ap high s) (ap₂ (λ (m n : ℕ). put_mid m n b z) ea el ∙ ap (λ (l : List ℕ). with_block i l b) (r ∙ ap low s))
      ∙ ap₂ (λ (j : ℕ) (w : Registers). stepped f (c + suc j) j w) ei p
      ∙ ap (λ (j : ℕ). walk f place c j x0) (sym (add-one k))

  pub walks_more : (place : ℕ → ℕ → ℕ) (n j i c : ℕ) (x b y z : List ℕ) → i ≡ place 6 j → c ≡ n * i
      → ◌≡◌ {A = Registers} (x, b) (walks f place n j x0)
      → y ≡ (walk f (place n) c n (x, b)).0 → z ≡ (walk f (place n) c n (x, b)).1
      → ◌≡◌ {A = Registers} (y, z) (walks f place n (j + 1) x0)
  unfolding walks
  walks_more place n j i c x b y z ei ec p q r =
      registers≡ q r
      ∙ ap₂ (λ (m : ℕ) (w : Registers). walk f (place n) m n w) (ec ∙ ap (λ (m : ℕ). n * m) ei) p
      ∙ ap (λ (m : ℕ). walks f place n m x0) (sym (add-one j))
