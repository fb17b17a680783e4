-- A list of bytes, as every lent slice of bytes is one.
use Rattle.std.specs.Prelude.{List, ℕ, ◌<◌, get_or}

abbrev pub Bytes : List ℕ → Type 0
Bytes l = (i : ℕ) → get_or l i 0 < 256
