-- Eight bytes, with the shape of their list laid open.
use mathlib.Core.Path.{◌≡◌, refl}
use mathlib.Core.List.{List, [], ◌∷◌}
use Prim.Native.Nat.{ℕ, zero, suc, ◌+◌, ◌*◌, ◌≤◌, ◌<◌}
use native.Mathlib.Omega.{arith}
use lib.ListN.{length, drop, length-drop}
use lib.Seq.{length-take-le}
use Rattle.slices.specs.Bytes.{Bytes}
use Rattle.slices.proofs.Bytes.{bytes_take, bytes_drop}
use Rattle.rfc3394.specs.Rfc3394.{initial_value, block_at}

-- a list of eight elements or more, laid open
pub data Eight : List ℕ → Type 0 where
  eight : (a b c d e f g h : ℕ) (l : List ℕ) → Eight (a ∷ b ∷ c ∷ d ∷ e ∷ f ∷ g ∷ h ∷ l)

pub eight_of : (l : List ℕ) → 8 ≤ length l → Eight l
eight_of [] h = absurd (omega arith)
eight_of (x0 ∷ []) h = absurd (omega arith)
eight_of (x0 ∷ x1 ∷ []) h = absurd (omega arith)
eight_of (x0 ∷ x1 ∷ x2 ∷ []) h = absurd (omega arith)
eight_of (x0 ∷ x1 ∷ x2 ∷ x3 ∷ []) h = absurd (omega arith)
eight_of (x0 ∷ x1 ∷ x2 ∷ x3 ∷ x4 ∷ []) h = absurd (omega arith)
eight_of (x0 ∷ x1 ∷ x2 ∷ x3 ∷ x4 ∷ x5 ∷ []) h = absurd (omega arith)
eight_of (x0 ∷ x1 ∷ x2 ∷ x3 ∷ x4 ∷ x5 ∷ x6 ∷ []) h = absurd (omega arith)
eight_of (x0 ∷ x1 ∷ x2 ∷ x3 ∷ x4 ∷ x5 ∷ x6 ∷ x7 ∷ l) h = eight x0 x1 x2 x3 x4 x5 x6 x7 l

-- eight bytes
pub data Half : List ℕ → Type 0 where
  half : {a b c d e f g h : ℕ} → a < 256 → b < 256 → c < 256 → d < 256 → e < 256 → f < 256 → g < 256 → h < 256
      → Half (a ∷ b ∷ c ∷ d ∷ e ∷ f ∷ g ∷ h ∷ [])

half_eight : {l : List ℕ} → Eight l → length l ≡ 8 → Bytes l → Half l
half_eight (eight x0 x1 x2 x3 x4 x5 x6 x7 []) n b = half (b 0) (b 1) (b 2) (b 3) (b 4) (b 5) (b 6) (b 7)
half_eight (eight x0 x1 x2 x3 x4 x5 x6 x7 (x8 ∷ l)) n b = absurd (omega arith)

pub half_of : (a : List ℕ) → length a ≡ 8 → Bytes a → Half a
half_of a e b = half_eight (eight_of a (omega arith)) e b

pub half_bytes : {a : List ℕ} → Half a → Bytes a
half_bytes (half a b c d e f g h) zero = a
half_bytes (half a b c d e f g h) (suc zero) = b
half_bytes (half a b c d e f g h) (suc (suc zero)) = c
half_bytes (half a b c d e f g h) (suc (suc (suc zero))) = d
half_bytes (half a b c d e f g h) (suc (suc (suc (suc zero)))) = e
half_bytes (half a b c d e f g h) (suc (suc (suc (suc (suc zero))))) = f
half_bytes (half a b c d e f g h) (suc (suc (suc (suc (suc (suc zero)))))) = g
half_bytes (half a b c d e f g h) (suc (suc (suc (suc (suc (suc (suc zero))))))) = h
half_bytes (half a b c d e f g h) (suc (suc (suc (suc (suc (suc (suc (suc i)))))))) = omega arith

pub half_length : {a : List ℕ} → Half a → length a ≡ 8
half_length (half a b c d e f g h) = refl

pub initial_half : Half initial_value
initial_half = let h : 0xa6 < 256 = omega arith in half h h h h h h h h

-- block i of a list that is long enough
pub block_half : (i : ℕ) (r : List ℕ) → Bytes r → i * 8 + 8 ≤ length r → Half (block_at i r)
block_half i r b h =
    half_of (block_at i r) (length-take-le 8 (drop (i * 8) r) (simp length-drop (omega arith))) (bytes_take 8 (drop (i * 8) r) (bytes_drop (i * 8) r b))
