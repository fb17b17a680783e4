-- An area that is read whole has at most 17 offers, so the 32 bits that C gets hold their count.
use Prim.Native.Nat.{ℕ, ◌<◌, ◌^◌}
use mathlib.Core.Path.{◌≡◌, refl, ap, ◌∙◌}
use mathlib.Core.List.{List}
use native.Mathlib.Nat.{mod-eq_of_lt}
use native.Mathlib.Omega.{arith}
use lib.ListN.{length}
use Rattle.area_format.specs.declared.Way.{Way}
use Rattle.area_format.specs.Area.{Reading, whole, refusal, reading, AreaAnswer, area_answer_to, area_answer}
use Rattle.std.specs.Prelude.{Result}
use Rattle.refusal.specs.declared.Refusal.{Refusal}
use Rattle.area.specs.declared.Offered.{Offered}
use Rattle.area.specs.Area.{area_answer_of}
use Rattle.area.proofs.Counts.{Few, few}
use Rattle.outcome.specs.Areas.{area_outcome}
use Rattle.outcome.specs.Internal.{count_low}
use Rattle.outcome.specs.declared.areas.AreaOutcome.{AreaOutcome}

all_counted : (area own : List ℕ) (r : Reading) → Few r → count_low (area_answer_to area own r) ≡ area_answer_to area own r
all_counted area own (whole offers at len) h = let small : length offers < 2 ^ 32 = omega arith in rw (mod-eq_of_lt small)
all_counted area own (refusal x) h = refl

pub handed_area : {o : AreaOutcome} (w : Result Offered Refusal) (way : Way) (area own : List ℕ) (room : ℕ)
    → o ≡ area_outcome (count_low (area_answer_of w)) → area_answer_of w ≡ area_answer way area own room → o ≡ area_outcome (area_answer way area own room)
unfolding area_answer
handed_area w way area own room e h =
    e
    ∙ ap (λ (a : AreaAnswer). area_outcome (count_low a)) h
    ∙ ap area_outcome (all_counted area own (reading way area own room) (few way area own room))
