-- What only the contracts of private functions need. Nothing here has to be believed.
use Rattle.std.specs.Prelude.{ℕ}
use Rattle.offers.specs.declared.peer.FirstRound.{FirstRound}
use Rattle.offers.specs.declared.peer.FirstRound.TheVariants.{CarryOn, Ask}

-- the value that a first round names
abbrev pub value_named : FirstRound → ℕ
value_named (CarryOn value) = value
value_named (Ask value position) = value
