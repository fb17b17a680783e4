use Rattle.std.proofs.Common.{◌≡◌, ℕ, ◌-◌, ◌*◌, List}
use Rattle.fips180.specs.Sha256.{W, rounds}
use Rattle.fips180.specs.Window.{window}
use Rattle.sha256_block.proofs.Sha256Compression8.rounds.Given as goal

-- before the sixteen rounds g, the working variables after the rounds before, and the words of these
abbrev pub invariant-loop-g : goal.invariant-loop-g
invariant-loop-g l = (b : List ℕ) → l.initial.w ≡ window (W b) 0 → (l.s ≡ rounds l.initial.s b (16 * l.g)) × (l.w ≡ window (W b) (16 * l.g - 16))
