-- What reading an area returns to C, by what it answers: kv_area of include/ketvaulo.h.
use Rattle.std.specs.Prelude.{ℕ, Bool, true, false}
use Rattle.area_format.specs.Area.{AreaAnswer, answered}
use Rattle.outcome.specs.Outcomes.{number_in, place_in}
use Rattle.outcome.specs.declared.areas.AreaOutcome.{AreaOutcome}

-- a truth value as C has it
abbrev pub flag_of : Bool → ℕ
flag_of true = 1
flag_of false = 0

-- kv_area: the count of the offers, the name's offset and length, and whether it agrees with the peer's own; or the refusal's number and place, and zeros
abbrev pub area_outcome : AreaAnswer → AreaOutcome
area_outcome (answered count nameAt nameLen same) =
    record { refusal = 0; offers = count; at = 0; name_at = nameAt; name_len = nameLen; same_name = flag_of same }
area_outcome (AreaAnswer.refused x) =
    record { refusal = number_in x; offers = 0; at = place_in x; name_at = 0; name_len = 0; same_name = 0 }
