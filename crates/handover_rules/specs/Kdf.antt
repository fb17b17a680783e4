-- The key derivation function of source document 003, section 5, which that document takes from IEEE 802.11r, over any MAC whose result has 160
-- bits. A byte string is a list of numbers.
use Rattle.std.specs.Prelude.{ℕ, zero, suc, ◌+◌, ◌/◌, ◌%◌, ◌^◌, List, [], ◌∷◌, ◌++◌, take}

-- a number in two bytes, low byte first. Section 5 gives no encoding for i and Length, and document 02 takes that of IEEE 802.11
abbrev pub le16 : ℕ → List ℕ
le16 x = x % 256 ∷ x / 2 ^ 8 % 256 ∷ []

-- what iteration i hands to the MAC: i || label || 0x00 || Context || Length, the length in bits
unfoldable pub kdf_input : List ℕ → List ℕ → ℕ → ℕ → List ℕ
kdf_input label context bits i = le16 i ++ (label ++ (0 ∷ (context ++ le16 bits)))

-- iterations = (Length + 159) / 160
unfoldable pub iterations : ℕ → ℕ
iterations bits = (bits + 159) / 160

module _ (mac : List ℕ → List ℕ → List ℕ) where
  -- result after i iterations: it is "" at first, and each iteration appends its MAC
  unfoldable pub result_after : List ℕ → List ℕ → List ℕ → ℕ → ℕ → List ℕ
  result_after key label context bits zero = []
  result_after key label context bits (suc i) = result_after key label context bits i ++ mac key (kdf_input label context bits (suc i))

  -- KDF-Length (K, label, Context): the first Length bits of result, for a length of whole bytes
  unfoldable pub kdf : List ℕ → List ℕ → List ℕ → ℕ → List ℕ
  kdf key label context bits = take (bits / 8) (result_after key label context bits (iterations bits))
