-- The first bytes of a list by value.
use Prim.Native.Nat.{ℕ}
use mathlib.Core.Path.{◌≡◌}
use mathlib.Core.List.{List, append-nil}
use native.Mathlib.Omega.{arith}
use lib.ListN.{length, replicate, length-replicate, drop_of_length-le}
use lib.Seq.{take_all}
use Rattle.key_frame.specs.KeyFrame.{first_of}

-- of a list of n they are all
pub first_whole : (n : ℕ) (s : List ℕ) → length s ≡ n → first_of n s ≡ s
first_whole n s h =
    let l = take_all n s (omega arith) in
    let none = drop_of_length-le {A = ℕ} (replicate n 0) {i = length s} (omega (arith, length-replicate {A = ℕ} n 0)) in
    rw (l, none) (append-nil s)
