-- A law for callers: an accepted reading's count is within the buffer that was lent.
use Prim.Native.Nat.{ℕ, ◌≤◌}
use mathlib.Core.Path.{◌≡◌, ap}
use mathlib.Core.Bool.{Bool}
use mathlib.Core.List.{List}
use native.Mathlib.Omega.{arith}
use lib.ListN.{length, length-append}
use Rattle.area_format.specs.declared.Way.{Way}
use Rattle.area_format.specs.Area.{Reading, whole, refusal, reading, answered, area_answer_to, area_buffer_to, area_answer, area_buffer}

pub count-within : (way : Way) (area own out last : List ℕ) {count at len : ℕ} {same : Bool} → answered count at len same ≡ area_answer way area own (length out)
    → last ≡ area_buffer way area own out → count ≤ length last
unfolding area_answer area_buffer
count-within way area own out last {count} {at} {len} {same} e b = go (reading way area own (length out)) e b
  where
    go : (r : Reading) → answered count at len same ≡ area_answer_to area own r → last ≡ area_buffer_to r out → count ≤ length last
    go (whole offers i n) e b =
        let c : count ≡ length offers = cc in
        omega (arith, simp length-append at (ap length b))
    go (refusal x) e b = let z : ◌≡◌ {A = ℕ} 0 1 = cc in omega arith
