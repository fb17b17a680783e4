-- What a call returns to C, by what it answers: the struct kv_outcome of include/ketvaulo.h, whose comment says the same in words.
use Rattle.std.specs.Prelude.{ℕ}
use Rattle.refusal.specs.Checks.{Reason, Check, pass, refuse}
use Rattle.refusal.specs.Answers.{Answer, returned, refused}
pub use Rattle.refusal.specs.Answers.{number_in, place_in}
use Rattle.outcome.specs.declared.Outcome.{Outcome}

-- a refusal: its number, and its place or 0
abbrev pub refused_outcome : Reason → Outcome
refused_outcome x = record { refusal = number_in x; value = place_in x }

-- acceptance: 0 and what the call answers
abbrev pub accepted_outcome : ℕ → Outcome
accepted_outcome n = record { refusal = 0; value = n }

-- the answer of a call
abbrev pub outcome_of : Answer → Outcome
outcome_of (returned n) = accepted_outcome n
outcome_of (refused x) = refused_outcome x

-- the answer of a call that only tests: 0 where all tests pass
abbrev pub check_outcome : Check → Outcome
check_outcome pass = accepted_outcome 0
check_outcome (refuse x) = refused_outcome x
