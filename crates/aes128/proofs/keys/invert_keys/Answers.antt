use mathlib.Core.Path.{sym}
use native.Mathlib.Omega.{arith}
use Rattle.fips197.proofs.Equivalent.{kept_none}
use Rattle.aes128.proofs.keys.Expansion.{kept_turn}
use Rattle.aes128.proofs.keys.invert_keys.Goals as goal

pub loop-i-init : goal.loop-i-init
loop-i-init c = sym (kept_none _)

pub loop-i-preserved : goal.loop-i-preserved
loop-i-preserved c =
    let l = c.loop-i in
    kept_turn _ l.ks l.i _ (omega arith) l.invariant c.inv_mix_columns-inverted.ensures
