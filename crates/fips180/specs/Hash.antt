-- FIPS 180-4: the padding of a message, its blocks and its hash, for any compression of blocks of 64 bytes, and the words of a block's
-- schedule, for any rule of the next word. Messages are whole bytes.
use Rattle.std.specs.Prelude.{List, [], ◌∷◌, ◌++◌, ℕ, zero, suc, ◌-◌, ◌*◌, ◌/◌, ◌%◌, ◌^◌, length, take, drop, replicate}
use Rattle.slices.specs.Numbers.{be64}

-- 5.1.1: the count of zero bytes in the padding of a message of n bytes. `FewestZeros` of Statements.antt is the standard's text
abbrev pub zeros : ℕ → ℕ
zeros n = (119 - n % 64) % 64

-- 5.1.1: the padding: a bit 1, zeros, and the message's length in bits, of which 64 bits are kept
unfoldable pub padding : ℕ → List ℕ
padding n = 0x80 ∷ replicate (zeros n) 0 ++ be64 (8 * n % 2 ^ 64)

unfoldable pub padded : List ℕ → List ℕ
padded m = m ++ padding (length m)

-- 6.1.2 and 6.2.2, 1: the first t words of a schedule; `next` gives a word by the words before it and its place
unfoldable pub schedule_by : (List ℕ → ℕ → ℕ) → ℕ → List ℕ
schedule_by next zero = []
schedule_by next (suc t) = schedule_by next t ++ (next (schedule_by next t) t ∷ [])

-- 6.1.2 and 6.2.2: the hash value after the first n blocks of m, from the hash value h
unfoldable pub blocks_by : (List ℕ → List ℕ → List ℕ) → ℕ → List ℕ → List ℕ → List ℕ
blocks_by compress zero h m = h
blocks_by compress (suc n) h m = blocks_by compress n (compress h (take 64 m)) (drop 64 m)

-- 6.1 and 6.2: the hash of a message: the last hash value, from the first one, written as bytes
unfoldable pub hash_by : (List ℕ → List ℕ → List ℕ) → List ℕ → (List ℕ → List ℕ) → List ℕ → List ℕ
hash_by compress first written m = written (blocks_by compress (length (padded m) / 64) first (padded m))
