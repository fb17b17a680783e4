-- What a buffer is after bytes were copied to its start.
use Prim.Native.Nat.{ℕ}
use mathlib.Core.Path.{◌≡◌, ap, ◌∙◌}
use mathlib.Core.List.{List, ◌++◌}
use lib.ListN.{length, take, drop}
use Rattle.slices.proofs.Lists.{copied_front}

-- n bytes copied to the start of a buffer
pub front_of : (n : ℕ) (s buffer : List ℕ) {after : List ℕ} → length s ≡ n → after ≡ take (length s) s ++ drop (length s) buffer → after ≡ s ++ drop n buffer
front_of n s buffer l e = copied_front s buffer e ∙ ap (λ (k : ℕ). s ++ drop k buffer) l
