-- What is proved of the rules of FIPS 197 and of the tables.
use Rattle.std.specs.Prelude.{◌≡◌, ℕ, suc, ◌<◌, get_or}
use Rattle.aes_sbox.specs.Field.{mul}
use Rattle.aes_sbox.specs.Sbox.{inverse, sbox_of, inv_sbox_of}
use Rattle.aes_sbox.specs.Tables.{sbox, inv_sbox, mixed_sbox, unmixed_sbox, mixed_word, unmixed_word}

-- 4.2: `inverse` is the multiplicative inverse of each byte that is not {00}; that of {00} is {00} (5.1.1).
abbrev pub InverseInverts : Type 0
InverseInverts = (inverse 0 ≡ 0) × ((k : ℕ) → k < 255 → mul (suc k) (inverse (suc k)) ≡ 1)

-- Figures 7 and 14 have at each place what the rules of 5.1.1 and 5.3.2 give.
abbrev pub SboxByRule : Type 0
SboxByRule = (k : ℕ) → k < 256 → get_or sbox k 0 ≡ sbox_of k

abbrev pub InvSboxByRule : Type 0
InvSboxByRule = (k : ℕ) → k < 256 → get_or inv_sbox k 0 ≡ inv_sbox_of k

-- Each S-box undoes the other, table by table and rule by rule.
abbrev pub TablesUndone : Type 0
TablesUndone = (k : ℕ) → k < 256 → (get_or inv_sbox (get_or sbox k 0) 0 ≡ k) × (get_or sbox (get_or inv_sbox k 0) 0 ≡ k)

abbrev pub SboxUndone : Type 0
SboxUndone = (k : ℕ) → k < 256 → (inv_sbox_of (sbox_of k) ≡ k) × (sbox_of (inv_sbox_of k) ≡ k)

-- The tables of words have at each place the word of what the S-box gives.
abbrev pub MixedByRule : Type 0
MixedByRule = (k : ℕ) → k < 256 → get_or mixed_sbox k 0 ≡ mixed_word (sbox_of k)

abbrev pub UnmixedByRule : Type 0
UnmixedByRule = (k : ℕ) → k < 256 → get_or unmixed_sbox k 0 ≡ unmixed_word (inv_sbox_of k)
