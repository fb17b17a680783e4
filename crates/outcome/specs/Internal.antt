-- What only the contracts between this crate and `ketvaulo` need. Nothing here has to be believed.
-- The struct for C has 32 bits for a count, a length and a position. A conversion takes the low 32 bits of any; of what the calls answer that loses nothing.
use Rattle.std.specs.Prelude.{◌%◌, ◌^◌}
use Rattle.area_format.specs.Area.{AreaAnswer, answered}
use Rattle.offer_rules.specs.Answers.{FirstAnswer, carry_on, ask}
use Rattle.key_reader.specs.KeyReader.{Reading, accepted}

-- an area's answer with the low 32 bits of its count
abbrev pub count_low : AreaAnswer → AreaAnswer
count_low (answered count name_at nameLen same) = answered (count % 2 ^ 32) name_at nameLen same
count_low (AreaAnswer.refused x) = AreaAnswer.refused x

-- a first round's answer with the low 32 bits of its position
abbrev pub position_low : FirstAnswer → FirstAnswer
position_low (carry_on value) = carry_on value
position_low (ask value position) = ask value (position % 2 ^ 32)
position_low (FirstAnswer.refused x) = FirstAnswer.refused x

-- a reader's answer with the low 32 bits of the key's length
abbrev pub length_low : Reading → Reading
length_low (accepted f n) = accepted f (n % 2 ^ 32)
length_low (Reading.refused x) = Reading.refused x
