-- The reader's `next` meets its contract: what stands at its offset, and where the next attribute begins.
use Rattle.std.proofs.Common.{◌≤◌, ◌+◌, sym, ap, ◌∙◌, length, arith}
use Rattle.slices.proofs.Lists.{rest_drop}
use Rattle.area.specs.Internal.{met_in}
use Rattle.area.proofs.reader.Onward.{within, outside, nothing_met, nothing_left}
use Rattle.area.proofs.reader.ReaderIterator.next.Goals as goal

pub overflow_add-self : goal.overflow_add-self
overflow_add-self c =
    let reader = c.args.self.now in
    let met = within reader.area.now reader.at reader.within (sym c.in-Some.is ∙ c.met_in.ensures ∙ ap met_in (rest_drop reader.at reader.area.now)) in
    let last : reader.at + c.in-Some.size.0 ≤ length reader.area.now = met.1 in
    omega arith

pub invariant_of-self : goal.invariant_of-self
invariant_of-self c =
    let reader = c.args.self.now in
    record { within = (within reader.area.now reader.at reader.within (sym c.in-Some.is ∙ c.met_in.ensures ∙ ap met_in (rest_drop reader.at reader.area.now))).1 }

pub returns-in-Some-clause-steps : goal.returns-in-Some-clause-steps
returns-in-Some-clause-steps c =
    let reader = c.args.self.now in
    let met = within reader.area.now reader.at reader.within (sym c.in-Some.is ∙ c.met_in.ensures ∙ ap met_in (rest_drop reader.at reader.area.now)) in
    (met.2, omega (arith, reader.within))

pub returns-in-Some-clause-goes : goal.returns-in-Some-clause-goes
returns-in-Some-clause-goes c =
    let reader = c.args.self.now in
    let met = within reader.area.now reader.at reader.within (sym c.in-Some.is ∙ c.met_in.ensures ∙ ap met_in (rest_drop reader.at reader.area.now)) in
    record { on = λ finite. (tt, finite, omega (arith, met.0, met.1, reader.within)); keeps = tt; rests = λ finite. tt }

pub returns-then-at-self-clause-steps : goal.returns-then-at-self-clause-steps
returns-then-at-self-clause-steps c =
    let reader = c.args.self.now in
    let none = nothing_left reader.area.now reader.at (omega (arith, c.if-at-self.true)) in
    ((none, none), tt)

pub returns-clause-steps : goal.returns-clause-steps
returns-clause-steps c =
    let reader = c.args.self.now in
    let met = c.met_in.ensures ∙ ap met_in (rest_drop reader.at reader.area.now) in
    (outside reader.area.now reader.at (omega (arith, reader.within, c.if-at-self.false)) (nothing_met _ met c.in_default.not-Some), omega (arith, reader.within))
