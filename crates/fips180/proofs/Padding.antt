-- The padding of FIPS 180-4, 5.1.1, as the standard puts it: the zeros are the fewest that let the length end a block.
use mathlib.Core.Path.{◌≡◌, ap, ◌∙◌}
use Prim.Native.Nat.{ℕ, suc, ◌+◌, ◌-◌, ◌*◌, ◌%◌, ◌^◌}
use native.Mathlib.Omega.{arith}
use lib.ListN.{length, replicate, length-append, length-replicate}
use Rattle.slices.specs.Numbers.{be64}
use Rattle.fips180.specs.Hash.{zeros, padding, padded}
use Rattle.fips180.specs.Statements.{FewestZeros, PaddedIsBlocks}

pub fewest_zeros : FewestZeros
fewest_zeros n = (omega arith, λ k e. omega arith)

pub padding-length : (n : ℕ) → length (padding n) ≡ suc (zeros n + 8)
unfolding padding
padding-length n = ap suc (length-append (replicate (zeros n) 0) (be64 (8 * n % 2 ^ 64)) ∙ ap (λ (k : ℕ). k + 8) (length-replicate (zeros n) 0))

pub padded-whole : PaddedIsBlocks
unfolding padded
padded-whole m =
    ap (λ (k : ℕ). k % 64) (length-append m (padding (length m)) ∙ ap (λ (k : ℕ). length m + k) (padding-length (length m))) ∙ numbers (length m)
  where
    numbers : (n : ℕ) → (n + suc ((119 - n % 64) % 64 + 8)) % 64 ≡ 0
    numbers n = omega arith
