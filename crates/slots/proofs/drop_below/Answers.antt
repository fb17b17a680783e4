use mathlib.Core.Path.{sym, ap, ◌∙◌}
use Prim.Native.Nat.{ℕ}
use lib.Count.{ones}
use Rattle.refusal.specs.Answers.{returned}
use Rattle.slot_rules.specs.Stored.{freeing}
use Rattle.slots.proofs.Calls.{live, drop-count, drop-none, drop_frees, drop_leaves}
use Rattle.slots.proofs.drop_below.Goals as goal

pub gone-word-requires : goal.gone-word-requires
gone-word-requires c =
    live c.args.slots.now c.requires c.args.number ∙ sym c.has_bit.ensures ∙ c.if-has_bit.true

pub returns-then-has_bit : goal.returns-then-has_bit
returns-then-has_bit c =
    let a = c.args in
    let yes = live a.slots.now c.requires a.number ∙ sym c.has_bit.ensures ∙ c.if-has_bit.true in
    let went = c.gone-word.ensures in
    let said = ap (λ (w : ℕ). returned (ones w)) went ∙ drop-count a.slots.now c.requires a.number yes in
    record { answer = said; stored = drop_frees a.slots.now a.number _ yes (ap (freeing a.slots.now) went) }

pub returns-else-has_bit : goal.returns-else-has_bit
returns-else-has_bit c =
    let a = c.args in
    let dead = live a.slots.now c.requires a.number ∙ sym c.has_bit.ensures ∙ c.if-has_bit.false in
    record { answer = drop-none a.slots.now a.number dead; stored = drop_leaves a.slots.now a.number dead }
