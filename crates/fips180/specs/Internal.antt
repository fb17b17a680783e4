-- What only the contracts of private functions need. Nothing here has to be believed.
-- The last hash value of a message, from its last bytes, and the block that these begin.
use Rattle.std.specs.Prelude.{List, ◌∷◌, ◌++◌, ℕ, ◌-◌, ◌*◌, ◌/◌, length, drop, replicate}
use Rattle.std.proofs.lemmas.List.Edits.{sets}
use Rattle.fips180.specs.Hash.{padding, blocks_by}

-- the last hash value of a message of n bytes: h after its whole blocks, and x the bytes after these
unfoldable pub closing_by : (List ℕ → List ℕ → List ℕ) → List ℕ → List ℕ → ℕ → List ℕ
closing_by compress h x n = blocks_by compress (length (x ++ padding n) / 64) h (x ++ padding n)

-- the block that the bytes after the whole blocks of m begin; zeros stand after them
unfoldable pub begun_block : List ℕ → List ℕ
begun_block m = sets (replicate 64 0) 0 (drop (length m / 64 * 64) m)

-- the bytes x, the bit 1 and zeros, to a block
abbrev pub marked_block : List ℕ → List ℕ
marked_block x = x ++ (0x80 ∷ replicate (63 - length x) 0)
