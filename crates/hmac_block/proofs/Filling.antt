-- Bytes that fit in a block stand there whole.
use Prim.Native.Nat.{ℕ, ◌-◌, ◌≤◌}
use mathlib.Core.Path.{◌≡◌, ap, ◌∙◌}
use mathlib.Core.List.{List, ◌++◌}
use lib.ListN.{length, take, replicate}
use lib.Seq.{take_all}

pub filled_short : (s : List ℕ) {r : List ℕ} → length s ≤ 64 → r ≡ take 64 s ++ replicate (64 - length s) 0 → r ≡ s ++ replicate (64 - length s) 0
filled_short s h e = e ∙ ap (λ (l : List ℕ). l ++ replicate (64 - length s) 0) (take_all 64 s h)
