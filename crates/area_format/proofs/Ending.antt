-- At its end an area is refused by 19 or by 10 alone.
use Prim.Native.Nat.{ℕ}
use mathlib.Core.Path.{◌≡◌}
use mathlib.Core.Bool.{Bool, true, false, cond}
use mathlib.Core.List.{List}
use native.Mathlib.Omega.{arith}
use lib.Dec.{eqb}
use lib.ListN.{length}
use Rattle.refusal.specs.Checks.{Reason, bare}
use Rattle.area_format.specs.declared.Name.{Name}
use Rattle.std.specs.Prelude.{Option, Some, None}
use Rattle.area_format.specs.Area.{whole, refusal, ended}

pub not-ended : (offers : List ℕ) (name : Option Name) {x : Reason} → (bare 19 ≡ x → ⊥) → (bare 10 ≡ x → ⊥) → ended offers name ≡ refusal x → ⊥
not-ended offers None not-19 not-10 e = not-19 cc
not-ended offers (Some name) {x} not-19 not-10 e = go (eqb (length offers) 0) e
  where
    go : (t : Bool) → cond t (refusal (bare 10)) (whole offers name.at name.len.0) ≡ refusal x → ⊥
    go true e = not-10 cc
    go false e = let z : ◌≡◌ {A = ℕ} 0 1 = cc in omega arith
