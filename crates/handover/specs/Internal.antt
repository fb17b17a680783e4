-- What only the contracts of private functions need. Nothing here has to be believed.
use Rattle.std.specs.Prelude.{List, ◌++◌, ℕ, take, set}
use Rattle.hmac_sha1.specs.Keyed.{mac_by_values}

-- the first 32 bytes of two MACs by the hash values of a key: of a text, and of the text with 2 for its first byte
unfoldable pub two_macs : List ℕ → List ℕ → List ℕ → List ℕ
two_macs inner outer text = take 32 (mac_by_values inner outer text ++ mac_by_values inner outer (set text 0 2))
