-- What only the contracts of private functions need. Nothing here has to be believed.
use Rattle.std.specs.Prelude.{List, [], ◌∷◌, ℕ, ◌+◌, ◌*◌, ◌/◌, ◌%◌, get_or}
use Rattle.std.specs.Int.Bits.{bit_and, bit_xor}
use Rattle.fips197.specs.State.{State, bytes, columns}

-- ---- a column as a word of 32 bits

-- The word of the bytes in the rows 0 to 3, the first the lowest, and the column of a word.
abbrev pub word_of : ℕ → ℕ → ℕ → ℕ → ℕ
word_of a b c d = ((d * 256 + c) * 256 + b) * 256 + a

abbrev pub column_of : ℕ → List ℕ
column_of x = x % 256 ∷ x / 0x100 % 256 ∷ x / 0x10000 % 256 ∷ x / 0x1000000 % 256 ∷ []

-- Each byte moved one row up, and that of row 0 to row 3.
abbrev pub turned : ℕ → ℕ
turned x = x / 0x100 + x % 256 * 0x1000000

-- Each byte doubled in the field of FIPS 197: seven bits of each are shifted to the left, and {1b} is added in the places whose bit 7 was set.
abbrev pub doubled : ℕ → ℕ
doubled x = bit_xor (bit_and x 0x7f7f7f7f * 2) (bit_and (x / 128) 0x01010101 * 0x1b)

-- ---- the state as four words, and the sum of what its bytes bring to a column

-- The state of four words.
abbrev pub state_of : List ℕ → State
state_of t = column_of (get_or t 0 0) ∷ column_of (get_or t 1 0) ∷ column_of (get_or t 2 0) ∷ column_of (get_or t 3 0) ∷ []

-- A state, written by its sixteen bytes.
abbrev pub laid_out : State → State
laid_out s = columns (bytes (λ x. x)) s

-- The column of the sum of four words, which the bytes in the rows 0 to 3 bring to it, each moved to its rows.
abbrev pub sum_of : ℕ → ℕ → ℕ → ℕ → ℕ
sum_of a b c d = bit_xor a (turned (bit_xor d (turned (bit_xor c (turned b)))))

abbrev pub sum_column : List ℕ → List ℕ
sum_column w = column_of (sum_of (get_or w 0 0) (get_or w 1 0) (get_or w 2 0) (get_or w 3 0))
