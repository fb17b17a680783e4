-- What the calls on offers return to C, by what they answer: kv_first_round and kv_outcome of include/ketvaulo.h.
use Rattle.offer_rules.specs.Answers.{FirstAnswer, carry_on, ask, RenewedAnswer, accepted}
use Rattle.outcome.specs.Outcomes.{number_in, accepted_outcome, refused_outcome}
use Rattle.outcome.specs.declared.Outcome.{Outcome}
use Rattle.outcome.specs.declared.negotiations.FirstRoundOutcome.{FirstRoundOutcome}

-- kv_first_round: Carry On with the value, Ask with value and position, or the number and zeros
abbrev pub first_round_outcome : FirstAnswer → FirstRoundOutcome
first_round_outcome (carry_on value) = record { refusal = 0; ask = 0; value = value; position = 0 }
first_round_outcome (ask value position) = record { refusal = 0; ask = 1; value = value; position = position }
first_round_outcome (FirstAnswer.refused x) = record { refusal = number_in x; ask = 0; value = 0; position = 0 }

-- kv_outcome of a renewed list: the choice, or a refusal
abbrev pub renewed_outcome : RenewedAnswer → Outcome
renewed_outcome (accepted choice) = accepted_outcome choice
renewed_outcome (RenewedAnswer.refused x) = refused_outcome x
