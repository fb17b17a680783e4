use mathlib.Core.Path.{ap, ◌∙◌}
use Prim.Native.Nat.{ℕ, ◌*◌, ◌^◌}
use Rattle.slots.proofs.BitLaws.{mask_high}
use Rattle.slots.proofs.bits.mask.Goals as goal

pub returns-else-i-lt32 : goal.returns-else-i-lt32
returns-else-i-lt32 c = ap (λ (n : ℕ). n * 2 ^ 32) c.from-else-i-lt32.ensures ∙ mask_high c.args.i c.if-i-lt32.false c.requires
