-- What the answer of the call stands for (area_format/specs/Area.antt).
use Rattle.std.specs.Prelude.{Result, Ok, Err}
use Rattle.refusal.specs.declared.Refusal.{Refusal}
use Rattle.refusal.specs.Answers.{reason_of}
use Rattle.area_format.specs.Area.{AreaAnswer, answered}
use Rattle.area.specs.declared.Offered.{Offered}

abbrev pub area_answer_of : Result Offered Refusal → AreaAnswer
area_answer_of (Ok o) = answered o.count o.name_at o.name_len o.same_name
area_answer_of (Err x) = AreaAnswer.refused (reason_of x)
