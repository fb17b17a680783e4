-- The expansion prf+ of RFC 4306, section 2.13, as document 01 reads it ("Hash, MAC and expansion"), over any MAC; and the tests of a
-- call that expands. A byte string is a list of numbers.
use Rattle.std.specs.Prelude.{ℕ, zero, suc, ◌+◌, ◌/◌, List, [], ◌∷◌, ◌++◌, take}
use Rattle.refusal.specs.Checks.{Check, bare, unless, ◌and_then◌, within, check6}

-- the bytes handed to the MAC for block i, after the block `previous`: previous, then S, then the byte i.
-- The paper has two cases, block 1 and the later blocks. Nothing stands before T1, so T0 is empty here and the two are one;
-- `TwoCases` of Statements.antt is the paper's text
unfoldable pub input_after : List ℕ → List ℕ → ℕ → List ℕ
input_after previous text i = previous ++ (text ++ (i ∷ []))

-- blocks run from 1 to n/32 rounded up
unfoldable pub block_count : ℕ → ℕ
block_count n = (n + 31) / 32

module _ (mac : List ℕ → List ℕ → List ℕ) where
  -- T1, T2 and on, under the key K and the text S
  unfoldable pub block : List ℕ → List ℕ → ℕ → List ℕ
  block key text zero = []
  block key text (suc i) = mac key (input_after (block key text i) text (suc i))

  -- the bytes handed to the MAC for block i, from 1 on; the key and the MAC's own padding are not among them
  unfoldable pub block_input : List ℕ → List ℕ → ℕ → List ℕ
  block_input key text zero = []
  block_input key text (suc i) = input_after (block key text i) text (suc i)

  -- T1 then T2 and on to Tm
  unfoldable pub blocks : List ℕ → List ℕ → ℕ → List ℕ
  blocks key text zero = []
  blocks key text (suc m) = blocks key text m ++ block key text (suc m)

  -- the first n bytes of T1, T2 and on
  unfoldable pub prf_plus_of : List ℕ → List ℕ → ℕ → List ℕ
  prf_plus_of key text n = take n (blocks key text (block_count n))

-- 5: key length not 1 to 8,160
abbrev pub check5 : ℕ → Check
check5 n = unless (within 1 8160 n) (bare 5)

-- the tests of an expansion to n bytes into a buffer of `room` bytes: 5, 6
unfoldable pub expand_check : ℕ → ℕ → Check
expand_check n room = check5 n and_then check6 n room
