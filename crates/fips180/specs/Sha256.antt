-- FIPS 180-4 (Secure Hash Standard): SHA-256, in the standard's own order and with its section numbers.
-- A word is a number below 2 ^ 32 and a byte one below 256; a block is a list of 64 bytes, a hash value a list of eight words.
-- Messages are whole bytes.
use Rattle.std.specs.Prelude.{cond, List, [], ◌∷◌, ◌++◌, ℕ, zero, suc, ◌+◌, ◌-◌, ◌%◌, ◌^◌, ltb, get_or}
use Rattle.std.specs.Int.Bits.{bit_xor}
use Rattle.slices.specs.Numbers.{be32}
use Rattle.fips180.specs.Words.{SHR, ROTR, Ch, Maj, word}
use Rattle.fips180.specs.Hash.{schedule_by, blocks_by, hash_by}

-- 4.1.2: the functions (4.4) to (4.7); Ch and Maj, (4.2) and (4.3), are those of SHA-1 too
abbrev pub Σ0 : ℕ → ℕ
Σ0 x = bit_xor (bit_xor (ROTR 2 x) (ROTR 13 x)) (ROTR 22 x)

abbrev pub Σ1 : ℕ → ℕ
Σ1 x = bit_xor (bit_xor (ROTR 6 x) (ROTR 11 x)) (ROTR 25 x)

abbrev pub σ0 : ℕ → ℕ
σ0 x = bit_xor (bit_xor (ROTR 7 x) (ROTR 18 x)) (SHR 3 x)

abbrev pub σ1 : ℕ → ℕ
σ1 x = bit_xor (bit_xor (ROTR 17 x) (ROTR 19 x)) (SHR 10 x)

-- 4.2.2: the sixty-four constants
abbrev pub K : List ℕ
K =
    0x428a2f98 ∷ 0x71374491 ∷ 0xb5c0fbcf ∷ 0xe9b5dba5 ∷ 0x3956c25b ∷ 0x59f111f1 ∷ 0x923f82a4 ∷ 0xab1c5ed5 ∷
    0xd807aa98 ∷ 0x12835b01 ∷ 0x243185be ∷ 0x550c7dc3 ∷ 0x72be5d74 ∷ 0x80deb1fe ∷ 0x9bdc06a7 ∷ 0xc19bf174 ∷
    0xe49b69c1 ∷ 0xefbe4786 ∷ 0x0fc19dc6 ∷ 0x240ca1cc ∷ 0x2de92c6f ∷ 0x4a7484aa ∷ 0x5cb0a9dc ∷ 0x76f988da ∷
    0x983e5152 ∷ 0xa831c66d ∷ 0xb00327c8 ∷ 0xbf597fc7 ∷ 0xc6e00bf3 ∷ 0xd5a79147 ∷ 0x06ca6351 ∷ 0x14292967 ∷
    0x27b70a85 ∷ 0x2e1b2138 ∷ 0x4d2c6dfc ∷ 0x53380d13 ∷ 0x650a7354 ∷ 0x766a0abb ∷ 0x81c2c92e ∷ 0x92722c85 ∷
    0xa2bfe8a1 ∷ 0xa81a664b ∷ 0xc24b8b70 ∷ 0xc76c51a3 ∷ 0xd192e819 ∷ 0xd6990624 ∷ 0xf40e3585 ∷ 0x106aa070 ∷
    0x19a4c116 ∷ 0x1e376c08 ∷ 0x2748774c ∷ 0x34b0bcb5 ∷ 0x391c0cb3 ∷ 0x4ed8aa4a ∷ 0x5b9cca4f ∷ 0x682e6ff3 ∷
    0x748f82ee ∷ 0x78a5636f ∷ 0x84c87814 ∷ 0x8cc70208 ∷ 0x90befffa ∷ 0xa4506ceb ∷ 0xbef9a3f7 ∷ 0xc67178f2 ∷ []

-- 5.3.3: the first hash value
unfoldable pub H0 : List ℕ
H0 = 0x6a09e667 ∷ 0xbb67ae85 ∷ 0x3c6ef372 ∷ 0xa54ff53a ∷ 0x510e527f ∷ 0x9b05688c ∷ 0x1f83d9ab ∷ 0x5be0cd19 ∷ []

-- 6.2.2, 1: a word of the message schedule, from those 2, 7, 15 and 16 places before it
unfoldable pub next_w : ℕ → ℕ → ℕ → ℕ → ℕ
next_w w2 w7 w15 w16 = (σ1 w2 + w7 + σ0 w15 + w16) % 2 ^ 32

-- word t of a block's schedule, from the words before it
unfoldable pub word_at : List ℕ → List ℕ → ℕ → ℕ
word_at b w t = cond (ltb t 16) (word b t) (next_w (get_or w (t - 2) 0) (get_or w (t - 7) 0) (get_or w (t - 15) 0) (get_or w (t - 16) 0))

-- W t, which the standard defines by its two cases: `ScheduleByCases` of Statements.antt is its text
unfoldable pub W : List ℕ → ℕ → ℕ
W b t = get_or (schedule_by (word_at b) (suc t)) t 0

-- 6.2.2, 3: a round, on the list of the working variables a b c d e f g h; each sum is taken whole modulo 2 ^ 32
unfoldable pub T1 : ℕ → ℕ → ℕ → ℕ → ℕ → ℕ → ℕ
T1 e f g h k w = (h + Σ1 e + Ch e f g + k + w) % 2 ^ 32

unfoldable pub T2 : ℕ → ℕ → ℕ → ℕ
T2 a b c = (Σ0 a + Maj a b c) % 2 ^ 32

-- the working variables after a round whose sums are t1 and t2
abbrev pub shifted : List ℕ → ℕ → ℕ → List ℕ
shifted s t1 t2 =
    (t1 + t2) % 2 ^ 32 ∷ get_or s 0 0 ∷ get_or s 1 0 ∷ get_or s 2 0 ∷ (get_or s 3 0 + t1) % 2 ^ 32 ∷ get_or s 4 0 ∷ get_or s 5 0 ∷ get_or s 6 0 ∷ []

unfoldable pub round : ℕ → ℕ → List ℕ → List ℕ
round k w s = shifted s (T1 (get_or s 4 0) (get_or s 5 0) (get_or s 6 0) (get_or s 7 0) k w) (T2 (get_or s 0 0) (get_or s 1 0) (get_or s 2 0))

-- 6.2.2, 2 and 3: the working variables after t rounds on a block, from the hash value h
unfoldable pub rounds : List ℕ → List ℕ → ℕ → List ℕ
rounds h b zero = h
rounds h b (suc t) = round (get_or K t 0) (W b t) (rounds h b t)

-- 6.2.2, 4: the next hash value: the sum of the hash value and the working variables, word by word
abbrev pub plus : List ℕ → List ℕ → ℕ → ℕ
plus h s i = (get_or h i 0 + get_or s i 0) % 2 ^ 32

unfoldable pub sums : List ℕ → List ℕ → List ℕ
sums h s = plus h s 0 ∷ plus h s 1 ∷ plus h s 2 ∷ plus h s 3 ∷ plus h s 4 ∷ plus h s 5 ∷ plus h s 6 ∷ plus h s 7 ∷ []

unfoldable pub compress : List ℕ → List ℕ → List ℕ
compress h b = sums h (rounds h b 64)

-- 6.2.2: the hash value after the first n blocks of m, from h
abbrev pub blocks : ℕ → List ℕ → List ℕ → List ℕ
blocks = blocks_by compress

-- 6.2.2, the end: the digest is the last hash value's words, one after another
unfoldable pub digest : List ℕ → List ℕ
digest h =
    be32 (get_or h 0 0) ++ (be32 (get_or h 1 0) ++ (be32 (get_or h 2 0) ++ (be32 (get_or h 3 0) ++ (be32 (get_or h 4 0) ++ (be32 (get_or h 5 0) ++ (be32 (get_or h 6 0) ++ be32 (get_or h 7 0)))))))

-- 6.2: the hash of a message
unfoldable pub sha256 : List ℕ → List ℕ
sha256 = hash_by compress H0 digest
