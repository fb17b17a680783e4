-- What is proved of the definitions of FIPS 197.
use Rattle.std.specs.Prelude.{◌≡◌, List, [], ℕ, ◌<◌, length, get_or}
use Rattle.fips197.specs.State.{State, Block, inv_mix_columns}
use Rattle.fips197.specs.Cipher.{cipher, inv_cipher, eq_inv_cipher, inverted_keys}
use Rattle.fips197.specs.KeyExpansion.{expand_key}

-- Under the round keys of any key the inverse cipher undoes the cipher, and the cipher the inverse cipher.
abbrev pub CipherUndone : Type 0
CipherUndone =
    (k : State) → Block k → (s : State) → Block s
    → (inv_cipher (expand_key k) (cipher (expand_key k) s) ≡ s) × (cipher (expand_key k) (inv_cipher (expand_key k) s) ≡ s)

-- 5.3.5: ds are the round keys of the equivalent inverse cipher, where ks are those of the cipher. All but the first and the last are
-- InvMixColumns of the cipher's.
pub record EqKeys (ks ds : List State) : Type 0 where
  pub first : get_or ds 0 [] ≡ get_or ks 0 []
  pub middle : (n : ℕ) → 0 < n → n < 10 → get_or ds n [] ≡ inv_mix_columns (get_or ks n [])
  pub last : get_or ds 10 [] ≡ get_or ks 10 []

-- `inverted_keys` are these.
abbrev pub KeysInverted : Type 0
KeysInverted = (ks : List State) → length ks ≡ 11 → EqKeys ks (inverted_keys ks)

-- 5.3.5: under them the equivalent inverse cipher is the inverse cipher.
abbrev pub EquivalentInverse : Type 0
EquivalentInverse = (ks : List State) → length ks ≡ 11 → (s : State) → eq_inv_cipher (inverted_keys ks) s ≡ inv_cipher ks s
