-- Lists of bytes: what is taken from one or joined of two is one.
use mathlib.Core.List.{List, [], ◌∷◌, ◌++◌}
use Prim.Native.Nat.{ℕ, zero, suc}
use native.Mathlib.Omega.{arith}
use lib.ListN.{take, drop}
use Rattle.slices.specs.Bytes.{Bytes}

pub bytes_append : (l m : List ℕ) → Bytes l → Bytes m → Bytes (l ++ m)
bytes_append [] m p q i = q i
bytes_append (x ∷ l) m p q zero = p zero
bytes_append (x ∷ l) m p q (suc i) = bytes_append l m (λ j. p (suc j)) q i

pub bytes_take : (n : ℕ) (l : List ℕ) → Bytes l → Bytes (take n l)
bytes_take zero l p i = omega arith
bytes_take (suc n) [] p i = p i
bytes_take (suc n) (x ∷ l) p zero = p zero
bytes_take (suc n) (x ∷ l) p (suc i) = bytes_take n l (λ j. p (suc j)) i

pub bytes_drop : (n : ℕ) (l : List ℕ) → Bytes l → Bytes (drop n l)
bytes_drop zero l p = p
bytes_drop (suc n) [] p = p
bytes_drop (suc n) (x ∷ l) p = bytes_drop n l (λ j. p (suc j))
