-- From what a call that writes ensures of its answer to what is promised to C.
use Prim.Native.Nat.{ℕ}
use Rattle.std.specs.Prelude.{Result}
use mathlib.Core.Path.{◌≡◌, ap, ◌∙◌}
use Rattle.refusal.specs.Answers.{Answer, answer_of}
use Rattle.refusal.specs.declared.Refusal.{Refusal}
use Rattle.outcome.specs.Outcomes.{outcome_of}
use Rattle.outcome.specs.declared.Outcome.{Outcome}

-- the outcome of an answer that equals a definition is the outcome of that definition
pub handed : {r : Outcome} (w : Result ℕ Refusal) {a : Answer} → r ≡ outcome_of (answer_of w) → answer_of w ≡ a → r ≡ outcome_of a
handed w e h = e ∙ ap outcome_of h
