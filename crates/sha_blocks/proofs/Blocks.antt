-- The blocks of a message that are left.
use Rattle.std.proofs.Common.{◌≡◌, ℕ, suc, ◌/◌, ◌<◌, List, ◌++◌, length, take, drop, sym, ap, ◌∙◌, arith}
use Rattle.std.proofs.lemmas.List.{length-append}
use Rattle.std.proofs.Math.Seq.{take-append_seam, drop-append_seam}
use Rattle.fips180.specs.Hash.{blocks_by}

module _ (f : List ℕ → List ℕ → List ℕ) where
  -- none is left
  pub all_done : (h m : List ℕ) {r : List ℕ} → length m < 64 → blocks_by f (length m / 64) h m ≡ r → h ≡ r
  unfolding blocks_by
  all_done h m short e =
      let none : 0 ≡ length m / 64 = omega (arith, short) in
      ap (λ (n : ℕ). blocks_by f n h m) none ∙ e

  -- the block x at the start of m is done
  pub one_done : (h m x g r : List ℕ) {v : List ℕ} → m ≡ x ++ r → length x ≡ 64 → g ≡ f h x → blocks_by f (length m / 64) h m ≡ v
      → blocks_by f (length r / 64) g r ≡ v
  unfolding blocks_by
  one_done h m x g r e len eg ev =
      let more : length m / 64 ≡ suc (length r / 64) = rw (e, length-append x r, len) (omega arith) in
      sym ((λ i. blocks_by f (more i) h (e i)) ∙ (λ i. blocks_by f (length r / 64) (f h (front i)) (back i)) ∙ ap (λ (l : List ℕ). blocks_by f (length r / 64) l r) (sym eg)) ∙ ev
    where
      front : take 64 (x ++ r) ≡ x
      front = ap (λ (n : ℕ). take n (x ++ r)) (sym len) ∙ take-append_seam x r

      back : drop 64 (x ++ r) ≡ r
      back = ap (λ (n : ℕ). drop n (x ++ r)) (sym len) ∙ drop-append_seam x r
