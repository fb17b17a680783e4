-- A byte string that is lent in parts, so that no caller joins them in a buffer.
use Rattle.std.specs.Prelude.{ℕ, List, flat_map}
use denote.Ref.{Bor}

-- the parts, one after the other
abbrev pub joined : List (Bor (List ℕ)) → List ℕ
joined = flat_map (λ part. part.now)
