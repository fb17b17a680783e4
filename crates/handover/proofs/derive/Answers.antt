-- Two MACs, one after the other.
use Prim.Native.Nat.{◌-◌, ◌≤◌}
use mathlib.Core.Path.{◌≡◌}
use borrow.Author.Rules.{rules}
use native.Mathlib.Omega.{arith}
use lib.ListN.{length, take, drop, length-take, length-drop}
use Rattle.slices.proofs.Copies.{copied_fits}
use Rattle.handover.proofs.Derived.{derived}
use Rattle.handover.proofs.derive.Goals as goal

pub returns : goal.returns
returns c =
    let a = c.args in
    let f = c.mac_of-first.result in
    let s = c.mac_of-second.result in
    let one = c.copy.new.to in
    let first : length f ≡ 20 = search rules in
    let second : length s ≡ 20 = search rules in
    let same : length one ≡ length a.out.now = search rules in
    let room : length (take 12 s) ≤ length (take (length one - 20) (drop 20 one)) = simp (length-take, length-drop) (omega arith) in
    derived a.keyed.inner a.keyed.outer a.text.now a.out.now first second
    c.mac_of-first.ensures (copied_fits f a.out.now (omega arith) c.copy.ensures)
    c.mac_of-second.ensures (copied_fits (take 12 s) (take (length one - 20) (drop 20 one)) room c.copy-2.ensures)
