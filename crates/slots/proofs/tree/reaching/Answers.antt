use borrow.Author.Rules.{rules}
use mathlib.Core.Path.{refl, sym, ap, ap₂, ◌∙◌}
use Prim.Native.Nat.{ℕ, ◌+◌, ◌*◌, ◌-◌, ◌<◌, ◌^◌}
use native.Mathlib.Omega.{arith}
use Rattle.slot_rules.specs.Table.{word_gone, bit}
use Rattle.slots.specs.Internal.{step_in, reaches_by}
use Rattle.slot_rules.proofs.Words.{bit-lt}
use Rattle.slots.proofs.BitLaws.{as_bit, word-step, word_fits}
use Rattle.slots.proofs.tree.reaching.Goals as goal

pub loop-s-init : goal.loop-s-init
unfolding word_gone
loop-s-init c = refl

pub overflow_mul-word : goal.overflow_mul-word
overflow_mul-word c =
    let l = c.loop-s in
    let h : word_gone (reaches_by (step_in c.args.steps.now) c.args.n) l.s (64 - l.s) < 2 ^ 63 = word_fits _ l.s (search rules) in
    let g : l.word < 2 ^ 63 = rw l.invariant h in
    omega arith

pub overflow_add-word : goal.overflow_add-word
overflow_add-word c =
    let l = c.loop-s in
    let h : word_gone (reaches_by (step_in c.args.steps.now) c.args.n) l.s (64 - l.s) < 2 ^ 63 = word_fits _ l.s (search rules) in
    let g : l.word < 2 ^ 63 = rw l.invariant h in
    let d : bit c.reaches.result < 2 = bit-lt c.reaches.result in
    let e = c.from.ensures ∙ as_bit c.reaches.result in
    omega arith

pub loop-s-preserved : goal.loop-s-preserved
loop-s-preserved c =
    let l = c.loop-s in
    ap₂ (λ (x y : ℕ). x * 2 + y) l.invariant (c.from.ensures ∙ as_bit c.reaches.result ∙ ap bit c.reaches.ensures)
    ∙ sym (word-step (reaches_by (step_in c.args.steps.now) c.args.n) l.s (search rules) l.auto.s)
