-- The bodies of a file walked from the first on.
use Prim.Native.Nat.{ℕ, ◌+◌, ◌≤◌}
use mathlib.Core.Path.{◌≡◌}
use mathlib.Core.Bool.{true}
use mathlib.Core.List.{List, [], ◌∷◌}
use native.Mathlib.Omega.{arith}
use lib.Dec.{eqb}
use lib.ListN.{length}
use Rattle.slices.proofs.Truth.{and_right}
use Rattle.bundle_rules.specs.Bundle.{Line, follow, last_end}
use Rattle.bundle_rules.proofs.Reading.{end_le}
use Rattle.bundle_contents.specs.Internal.{Inside, none, more}

-- where each offset is the previous end and the last end is the file's, each body ends within the file
pub inside_all : (f : List ℕ) (at : ℕ) (lines : List Line) → follow at lines ≡ true → last_end at lines ≡ length f → Inside f lines
unfolding follow last_end
inside_all f at [] e h = none
inside_all f at (l ∷ lines) e h =
    let later = and_right (eqb l.offset at) _ e in
    let le = end_le (l.offset + l.size) lines later in
    let fits : l.offset + l.size ≤ length f = omega arith in
    more fits (inside_all f (l.offset + l.size) lines later h)

pub inside_first : {f : List ℕ} {l : Line} {lines rest : List Line} → rest ≡ l ∷ lines → Inside f rest → (l.offset + l.size ≤ length f) × Inside f lines
inside_first {f} e r = go (rw e at r)
  where
    go : {l : Line} {lines : List Line} → Inside f (l ∷ lines) → (l.offset + l.size ≤ length f) × Inside f lines
    go (more h r) = (h, r)
