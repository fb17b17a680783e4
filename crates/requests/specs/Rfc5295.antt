-- The text S of a usage key: RFC 5295, as source document 000 section 3 writes it and document 01 reads it ("Usage keys"). A byte
-- string is a list of numbers.
use Rattle.std.specs.Prelude.{ℕ, List, ◌∷◌, ◌++◌, leb, length}
use Rattle.slices.specs.Numbers.{be16}
use Rattle.refusal.specs.Checks.{Check, bare, unless}

-- S: label, one zero byte, optional data, then the key length n as two bytes, high byte first
unfoldable pub usage_text : List ℕ → List ℕ → ℕ → List ℕ
usage_text label extra n = label ++ (0 ∷ (extra ++ be16 n))

-- 4: optional data over 2,048 bytes
abbrev pub check4 : List ℕ → Check
check4 extra = unless (leb (length extra) 2048) (bare 4)
