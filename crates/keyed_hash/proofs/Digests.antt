-- A digest is small: it fits in a block.
use Prim.Native.Nat.{ℕ, ◌*◌, ◌^◌, ◌<◌, ◌≤◌}
use mathlib.Core.Path.{◌≡◌, sym, subst}
use mathlib.Core.List.{List}
use native.Mathlib.Omega.{arith}
use lib.ListN.{length}
use Rattle.fips180.specs.Hash.{hash_by}

pub bytes_small : (n : ℕ) → n ≤ 64 → n * 1 < 2 ^ 63
bytes_small n h = omega arith

pub short_digest : (compress : List ℕ → List ℕ → List ℕ) (first : List ℕ) (written : List ℕ → List ℕ) → ((value : List ℕ) → length (written value) ≤ 64)
    → (m : List ℕ) {d : List ℕ} → d ≡ hash_by compress first written m → length d ≤ 64
unfolding hash_by
short_digest compress first written fits m e = subst (λ (d : List ℕ). length d ≤ 64) (sym e) (fits _)
