-- What is proved of the definitions of FIPS 180-4.
use Rattle.std.specs.Prelude.{◌≡◌, List, ◌++◌, ℕ, ◌+◌, ◌-◌, ◌%◌, ◌<◌, ◌≤◌, length}
use Rattle.fips180.specs.Words.{Ch, Maj, word}
use Rattle.fips180.specs.Hash.{zeros, padded, hash_by}
use Rattle.fips180.specs.Sha1 as Sha1
use Rattle.fips180.specs.Sha256.{next_w, W}
use Rattle.fips180.specs.Stream.{started, started_after, absorbed_by, finished_by}

-- 5.1.1: after n bytes and the byte of the bit 1, the zeros end 8 bytes before the end of a block, and no fewer zeros do.
-- `fewest_zeros` of proofs/Padding.antt
abbrev pub FewestZeros : Type 0
FewestZeros = (n : ℕ) → ((n + 1 + zeros n) % 64 ≡ 56) × ((k : ℕ) → (n + 1 + k) % 64 ≡ 56 → zeros n ≤ k)

-- 5.1: a padded message is whole blocks. `padded-whole` of proofs/Padding.antt
abbrev pub PaddedIsBlocks : Type 0
PaddedIsBlocks = (m : List ℕ) → length (padded m) % 64 ≡ 0

-- 6.2.2, 1, word for word: W t is word t of the block for t from 0 to 15, and the sum over the words 2, 7, 15 and 16 before it for t from 16
-- on. `schedule_by_cases` of proofs/Sha256Schedule.antt
abbrev pub ScheduleByCases : Type 0
ScheduleByCases =
    (b : List ℕ) (t : ℕ)
    → (t < 16 → W b t ≡ word b t)
    × (16 ≤ t → W b t ≡ next_w (W b (t - 2)) (W b (t - 7)) (W b (t - 15)) (W b (t - 16)))

-- 6.1.2, 1, word for word: the same for SHA-1, by the words 3, 8, 14 and 16 before W t. `schedule_by_cases` of proofs/Sha1Schedule.antt
abbrev pub Sha1ScheduleByCases : Type 0
Sha1ScheduleByCases =
    (b : List ℕ) (t : ℕ)
    → (t < 16 → Sha1.W b t ≡ word b t)
    × (16 ≤ t → Sha1.W b t ≡ Sha1.next_w (Sha1.W b (t - 3)) (Sha1.W b (t - 8)) (Sha1.W b (t - 14)) (Sha1.W b (t - 16)))

-- 4.1.1 and 4.2.1: the function and the constant of SHA-1's round t, by the standard's four cases. `round_by_cases` of proofs/Sha1Rounds.antt
abbrev pub Has : (ℕ → ℕ → ℕ → ℕ) → ℕ → ℕ → Type 0
Has f k t = ((x y z : ℕ) → Sha1.f t x y z ≡ f x y z) × (Sha1.K t ≡ k)

abbrev pub Sha1RoundByCases : Type 0
Sha1RoundByCases =
    (t : ℕ)
    → (t < 20 → Has Ch 0x5a827999 t)
    × (20 ≤ t → t < 40 → Has Sha1.Parity 0x6ed9eba1 t)
    × (40 ≤ t → t < 60 → Has Maj 0x8f1bbcdc t)
    × (60 ≤ t → Has Sha1.Parity 0xca62c1d6 t)

module _ (compress : List ℕ → List ℕ → List ℕ) (first : List ℕ) (written : List ℕ → List ℕ) where
  -- the digest of a hash in progress that has absorbed m is the hash of m. `stream_is_hash` of proofs/Stream.antt
  abbrev pub StreamIsHash : Type 0
  StreamIsHash = (m : List ℕ) → finished_by compress written (absorbed_by compress (started first) m) ≡ hash_by compress first written m

  -- a hash that is started after a block b, by the hash value after it, and absorbs m comes to the hash of b and m joined.
  -- `after-block_is_hash` of proofs/Stream.antt
  abbrev pub AfterBlockIsHash : Type 0
  AfterBlockIsHash =
      (b m : List ℕ) → length b ≡ 64 → finished_by compress written (absorbed_by compress (started_after (compress first b)) m) ≡ hash_by compress first written (b ++ m)
