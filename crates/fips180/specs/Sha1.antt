-- FIPS 180-4 (Secure Hash Standard): SHA-1, in the standard's own order and with its section numbers.
-- A word is a number below 2 ^ 32 and a byte one below 256; a block is a list of 64 bytes, a hash value a list of five words.
-- Messages are whole bytes.
use Rattle.std.specs.Prelude.{cond, List, [], ◌∷◌, ◌++◌, ℕ, zero, suc, ◌+◌, ◌-◌, ◌%◌, ◌^◌, ltb, get_or}
use Rattle.std.specs.Int.Bits.{bit_xor}
use Rattle.slices.specs.Numbers.{be32}
use Rattle.fips180.specs.Words.{ROTL, Ch, Maj, word}
use Rattle.fips180.specs.Hash.{schedule_by, blocks_by, hash_by}

-- 4.1.1: the function of round t, (4.1): Ch, Parity, Maj and Parity, for twenty rounds each
abbrev pub Parity : ℕ → ℕ → ℕ → ℕ
Parity x y z = bit_xor (bit_xor x y) z

abbrev pub f : ℕ → ℕ → ℕ → ℕ → ℕ
f t x y z = cond (ltb t 20) (Ch x y z) (cond (ltb t 40) (Parity x y z) (cond (ltb t 60) (Maj x y z) (Parity x y z)))

-- 4.2.1: the constant of round t
abbrev pub K : ℕ → ℕ
K t = cond (ltb t 20) 0x5a827999 (cond (ltb t 40) 0x6ed9eba1 (cond (ltb t 60) 0x8f1bbcdc 0xca62c1d6))

-- 5.3.1: the first hash value
unfoldable pub H0 : List ℕ
H0 = 0x67452301 ∷ 0xefcdab89 ∷ 0x98badcfe ∷ 0x10325476 ∷ 0xc3d2e1f0 ∷ []

-- 6.1.2, 1: a word of the message schedule, from those 3, 8, 14 and 16 places before it
unfoldable pub next_w : ℕ → ℕ → ℕ → ℕ → ℕ
next_w w3 w8 w14 w16 = ROTL 1 (bit_xor (bit_xor (bit_xor w3 w8) w14) w16)

-- word t of a block's schedule, from the words before it
unfoldable pub word_at : List ℕ → List ℕ → ℕ → ℕ
word_at b w t = cond (ltb t 16) (word b t) (next_w (get_or w (t - 3) 0) (get_or w (t - 8) 0) (get_or w (t - 14) 0) (get_or w (t - 16) 0))

-- W t, which the standard defines by its two cases: `Sha1ScheduleByCases` of Statements.antt is its text
unfoldable pub W : List ℕ → ℕ → ℕ
W b t = get_or (schedule_by (word_at b) (suc t)) t 0

-- 6.1.2, 3: the sum of a round, whose function gives v, and the working variables a b c d e after it
unfoldable pub T : ℕ → ℕ → ℕ → ℕ → ℕ → ℕ
T a v e k w = (ROTL 5 a + v + e + k + w) % 2 ^ 32

unfoldable pub step : ℕ → ℕ → ℕ → List ℕ → List ℕ
step v k w s = T (get_or s 0 0) v (get_or s 4 0) k w ∷ get_or s 0 0 ∷ ROTL 30 (get_or s 1 0) ∷ get_or s 2 0 ∷ get_or s 3 0 ∷ []

-- round t, with its word of the schedule
unfoldable pub round : ℕ → ℕ → List ℕ → List ℕ
round t w s = step (f t (get_or s 1 0) (get_or s 2 0) (get_or s 3 0)) (K t) w s

-- 6.1.2, 2 and 3: the working variables after t rounds on a block, from the hash value h
unfoldable pub rounds : List ℕ → List ℕ → ℕ → List ℕ
rounds h b zero = h
rounds h b (suc t) = round t (W b t) (rounds h b t)

-- 6.1.2, 4: the next hash value: the sum of the hash value and the working variables, word by word
abbrev pub plus : List ℕ → List ℕ → ℕ → ℕ
plus h s i = (get_or h i 0 + get_or s i 0) % 2 ^ 32

unfoldable pub sums : List ℕ → List ℕ → List ℕ
sums h s = plus h s 0 ∷ plus h s 1 ∷ plus h s 2 ∷ plus h s 3 ∷ plus h s 4 ∷ []

unfoldable pub compress : List ℕ → List ℕ → List ℕ
compress h b = sums h (rounds h b 80)

-- 6.1.2: the hash value after the first n blocks of m, from h
abbrev pub blocks : ℕ → List ℕ → List ℕ → List ℕ
blocks = blocks_by compress

-- 6.1.2, the end: the digest is the last hash value's words, one after another
unfoldable pub digest : List ℕ → List ℕ
digest h = be32 (get_or h 0 0) ++ (be32 (get_or h 1 0) ++ (be32 (get_or h 2 0) ++ (be32 (get_or h 3 0) ++ be32 (get_or h 4 0))))

-- 6.1: the hash of a message
unfoldable pub sha1 : List ℕ → List ℕ
sha1 = hash_by compress H0 digest
