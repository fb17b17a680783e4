-- The digests: a hash value's words as bytes, which fit in a block.
use Prim.Native.Nat.{ℕ, ◌≤◌}
use mathlib.Core.Path.{◌≡◌, refl}
use mathlib.Core.List.{List, [], ◌∷◌}
use native.Mathlib.Omega.{arith}
use lib.Dec.{lit≤}
use lib.ListN.{length}
use Rattle.std.specs.List.{flat_map}
use Rattle.slices.specs.Numbers.{be32}
use Rattle.fips180.specs.Sha1 as Sha1
use Rattle.fips180.specs.Sha256 as Sha256

pub sha1_fits : (value : List ℕ) → length (Sha1.digest value) ≤ 64
unfolding Sha1.digest
sha1_fits value = lit≤ tt

pub sha256_fits : (value : List ℕ) → length (Sha256.digest value) ≤ 64
unfolding Sha256.digest
sha256_fits value = lit≤ tt

pub sha1_words : (h : List ℕ) → length h ≡ 5 → flat_map be32 h ≡ Sha1.digest h
unfolding Sha1.digest
sha1_words (a ∷ b ∷ c ∷ d ∷ e ∷ []) l = refl
sha1_words [] l = absurd (omega arith)
sha1_words (a ∷ []) l = absurd (omega arith)
sha1_words (a ∷ b ∷ []) l = absurd (omega arith)
sha1_words (a ∷ b ∷ c ∷ []) l = absurd (omega arith)
sha1_words (a ∷ b ∷ c ∷ d ∷ []) l = absurd (omega arith)
sha1_words (a ∷ b ∷ c ∷ d ∷ e ∷ f ∷ h) l = absurd (omega arith)

pub sha256_words : (h : List ℕ) → length h ≡ 8 → flat_map be32 h ≡ Sha256.digest h
unfolding Sha256.digest
sha256_words (a ∷ b ∷ c ∷ d ∷ e ∷ f ∷ g ∷ h ∷ []) l = refl
sha256_words [] l = absurd (omega arith)
sha256_words (a ∷ []) l = absurd (omega arith)
sha256_words (a ∷ b ∷ []) l = absurd (omega arith)
sha256_words (a ∷ b ∷ c ∷ []) l = absurd (omega arith)
sha256_words (a ∷ b ∷ c ∷ d ∷ []) l = absurd (omega arith)
sha256_words (a ∷ b ∷ c ∷ d ∷ e ∷ []) l = absurd (omega arith)
sha256_words (a ∷ b ∷ c ∷ d ∷ e ∷ f ∷ []) l = absurd (omega arith)
sha256_words (a ∷ b ∷ c ∷ d ∷ e ∷ f ∷ g ∷ []) l = absurd (omega arith)
sha256_words (a ∷ b ∷ c ∷ d ∷ e ∷ f ∷ g ∷ h ∷ i ∷ j) l = absurd (omega arith)
