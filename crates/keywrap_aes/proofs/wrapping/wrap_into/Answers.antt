-- `keywrap_aes::wrapping::wrap_into` meets its contract: the part from byte 8 on holds the key, then the wrapped blocks, and A comes before it.
use Prim.Native.Nat.{◌+◌, ◌-◌}
use mathlib.Core.Path.{ap, ◌∙◌}
use native.Mathlib.Omega.{arith}
use lib.ListN.{length}
use Rattle.keywrap_aes.proofs.wrapping.Parts.{wrapped_in_place}
use Rattle.keywrap_aes.proofs.wrapping.wrap_into.Goals as goal

pub returns : goal.returns
returns c =
    let s = c.args in
    wrapped_in_place s.kek s.key.now s.out.now (length s.key.now + 8 - 8) _ c.requires.1 (omega arith) c.copy.ensures
    _ _ _ (ap length c.eight_bytes.ensures) (c.eight_bytes.ensures ∙ c.passes-a.ensures.next) c.passes-a.ensures.part c.copy-2.ensures
