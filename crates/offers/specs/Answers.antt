-- What the answers of the peer's calls stand for (offer_rules/specs/Answers.antt).
use Rattle.std.specs.Prelude.{ℕ, Result, Ok, Err}
use Rattle.refusal.specs.declared.Refusal.{Refusal}
use Rattle.refusal.specs.Answers.{reason_of}
use Rattle.offer_rules.specs.Answers.{FirstAnswer, carry_on, ask, RenewedAnswer, accepted}
use Rattle.offers.specs.declared.peer.FirstRound.{FirstRound}
use Rattle.offers.specs.declared.peer.FirstRound.TheVariants.{CarryOn, Ask}

-- the first round's answer
abbrev pub first_round_of : Result FirstRound Refusal → FirstAnswer
first_round_of (Ok (CarryOn value)) = carry_on value
first_round_of (Ok (Ask value position)) = ask value position
first_round_of (Err x) = FirstAnswer.refused (reason_of x)

-- the answer to the renewed list
abbrev pub renewed_of : Result ℕ Refusal → RenewedAnswer
renewed_of (Ok choice) = accepted choice
renewed_of (Err x) = RenewedAnswer.refused (reason_of x)
