-- This serves contracts between crates only.
-- A hash in progress: what absorbing bytes does to it, one byte at a time, and the digest of all that was absorbed, for any compression of
-- blocks of 64 bytes. `StreamIsHash` of Statements.antt says that the digest is the standard's.
use Rattle.std.specs.Prelude.{List, [], ◌∷◌, Bool, cond, ℕ, ◌+◌, ◌%◌, ◌^◌, eqb, set, replicate}
use Rattle.fips180.specs.Hash.{padding}

-- the hash value after the whole blocks absorbed, the block that is being filled, and the count of all bytes modulo 2 ^ 64
pub record Progress : Type 0 where
  pub value : List ℕ
  pub block : List ℕ
  pub count : ℕ

-- nothing is absorbed yet
abbrev pub started : List ℕ → Progress
started first = record { value = first; block = replicate 64 0; count = 0 }

-- one block is absorbed, after which the hash value is `value`
abbrev pub started_after : List ℕ → Progress
started_after value = record { value = value; block = replicate 64 0; count = 64 }

module _ (compress : List ℕ → List ℕ → List ℕ) where
  -- one byte more: it goes into the block; a full block is compressed, and an empty one begun
  unfoldable pub absorb_byte : Progress → ℕ → Progress
  absorb_byte s x =
      let b : List ℕ = set s.block (s.count % 64) x in
      let full : Bool = eqb (s.count % 64) 63 in
      record {
        value = cond full (compress s.value b) s.value;
        block = cond full (replicate 64 0) b;
        count = (s.count + 1) % 2 ^ 64;
      }

  unfoldable pub absorbed_by : Progress → List ℕ → Progress
  absorbed_by s [] = s
  absorbed_by s (x ∷ xs) = absorbed_by (absorb_byte s x) xs

  -- the digest of all that was absorbed: the padding is absorbed after it, and the last hash value is written as bytes
  unfoldable pub finished_by : (List ℕ → List ℕ) → Progress → List ℕ
  finished_by written s = written (absorbed_by s (padding s.count)).value
