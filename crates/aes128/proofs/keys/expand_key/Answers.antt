-- `aes128::keys::expand_key` meets its contract: the round keys below i stand in their places.
use mathlib.Core.Path.{◌≡◌, refl, ◌∙◌}
use mathlib.Core.List.{[]}
use Prim.Native.Nat.{ℕ, ◌<◌}
use native.Mathlib.Omega.{arith}
use lib.ListN.{length-set}
use Rattle.fips197.specs.State.{State}
use Rattle.fips197.specs.KeyExpansion.{rcon, round_key}
use Rattle.tables.proofs.Filled.{filled}
use Rattle.aes128.proofs.keys.Expansion.{at_zero, next_step, constant_step, expanded}
use Rattle.aes128.proofs.keys.expand_key.Goals as goal

pub loop-i-init : goal.loop-i-init
unfolding round_key rcon
loop-i-init c = record { eleven = refl; next = refl; so_far = at_zero _ refl }

pub loop-i-preserved : goal.loop-i-preserved
loop-i-preserved c =
    let l = c.loop-i in
    let k = c.args.k in
    let low : 0 < l.i = omega arith in
    let before = l.invariant.so_far in
    let e = next_step k l.i l.constant _ _ low (before _ (omega arith)) l.invariant.next c.next_key-next.ensures in
    record {
      eleven = length-set l.ks l.i c.next_key-next.result ∙ l.invariant.eleven;
      next = constant_step l.i l.constant _ low l.invariant.next c.next_constant-constant.ensures;
      so_far = filled State (λ (n : ℕ) (y : State). y ≡ round_key k n) l.ks l.i _ [] (omega (arith, l.invariant.eleven)) e before;
    }

pub returns : goal.returns
returns c =
    let l = c.loop-i in
    let e : l.i ≡ 11 = omega arith in
    expanded c.args.k l.ks l.invariant.eleven (λ n h. l.invariant.so_far n (omega (arith, e, h)))
