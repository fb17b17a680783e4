-- HMAC by the hash values after a key's two blocks is RFC 2104's HMAC, since both are blocks of 64 bytes.
use Prim.Native.Nat.{ℕ, ◌≤◌}
use mathlib.Core.Path.{◌≡◌, ap, ◌∙◌}
use mathlib.Core.List.{List, ◌++◌}
use lib.ListN.{length}
use Rattle.fips180.specs.Hash.{hash_by}
use Rattle.fips180.specs.Stream.{Progress, started_after, absorbed_by, finished_by}
use Rattle.fips180.proofs.Stream.{after-block_is_hash}
use Rattle.rfc2104.specs.Rfc2104.{masked, key_block, ipad, opad, hmac}
use Rattle.rfc2104.specs.Keyed.{key_value_by, hash_after_by, mac_by_values_by}
use Rattle.rfc2104.specs.Statements.{KeptValuesGiveMac}
use Rattle.rfc2104.proofs.Blocks.{masked-length, key_block-length}

-- the MAC of a text as a program computes it from a key's two hash values: s is the inner hash begun, d its digest, r the outer hash
pub mac_by_hashes : (compress : List ℕ → List ℕ → List ℕ) (written : List ℕ → List ℕ) (outer text : List ℕ) {inner d r : List ℕ} {s : Progress}
    → s ≡ started_after inner → d ≡ finished_by compress written (absorbed_by compress s text) → r ≡ hash_after_by compress written outer d
    → r ≡ mac_by_values_by compress written inner outer text
unfolding hash_after_by mac_by_values_by
mac_by_hashes compress written outer text es ed er =
    er ∙ ap (hash_after_by compress written outer) (ed ∙ ap (λ (t : Progress). finished_by compress written (absorbed_by compress t text)) es)

module _ (compress : List ℕ → List ℕ → List ℕ) (first : List ℕ) (written : List ℕ → List ℕ) where
  abbrev hash : List ℕ → List ℕ
  hash = hash_by compress first written

  -- the hash value that a program computes from a key's block
  pub key-value : (key : List ℕ) (pad : ℕ) {block v : List ℕ} → block ≡ key_block hash key → v ≡ compress first (masked block pad)
      → v ≡ key_value_by compress first written key pad
  unfolding key_value_by
  key-value key pad eb ev = ev ∙ ap (λ (b : List ℕ). compress first (masked b pad)) eb

  module _ (fits : (value : List ℕ) → length (written value) ≤ 64) where
    hash-fits : (m : List ℕ) → length (hash m) ≤ 64
    unfolding hash_by
    hash-fits m = fits _

    -- the hash after a key's masked block
    after-pad : (key message : List ℕ) (pad : ℕ) → hash_after_by compress written (key_value_by compress first written key pad) message ≡ hash (masked (key_block hash key) pad ++ message)
    unfolding key_value_by hash_after_by
    after-pad key message pad =
        after-block_is_hash compress first written (masked (key_block hash key) pad) message (masked-length (key_block hash key) pad ∙ key_block-length hash hash-fits key)

  pub kept_values_give_mac : KeptValuesGiveMac compress first written
  unfolding mac_by_values_by hmac
  kept_values_give_mac fits key message =
      after-pad fits key _ opad ∙ ap (λ (d : List ℕ). hash (masked (key_block hash key) opad ++ d)) (after-pad fits key message ipad)
