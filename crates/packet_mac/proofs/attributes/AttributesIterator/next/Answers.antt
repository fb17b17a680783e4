-- The walk's `next` meets its contract: what it tells of the attribute at its offset, and where it goes on.
use Rattle.std.proofs.Common.{◌≤◌, ◌<◌, ◌+◌, sym, refl, length, ◌∙◌, arith}
use Rattle.packet_mac.proofs.attributes.Finding.{told_some, told_none, told_step}
use Rattle.packet_mac.proofs.attributes.AttributesIterator.next.Goals as goal

pub overflow_add-self : goal.overflow_add-self
overflow_add-self c =
    let walk = c.args.self.now in
    let told = told_some walk.packet.now walk.at _ _ _ (omega (arith, c.if-at-self.false)) (sym c.size_in.ensures ∙ c.in-Some.is) refl refl in
    let step = told_step _ _ _ _ told in
    let last : walk.at + c.in-Some.size ≤ length walk.packet.now = step.1 in
    omega arith

pub returns-in-Some-clause-steps : goal.returns-in-Some-clause-steps
returns-in-Some-clause-steps c =
    let walk = c.args.self.now in
    (refl, refl, told_some walk.packet.now walk.at _ _ _ (omega (arith, c.if-at-self.false)) (sym c.size_in.ensures ∙ c.in-Some.is) refl refl)

pub returns-in-Some-clause-goes : goal.returns-in-Some-clause-goes
returns-in-Some-clause-goes c =
    let walk = c.args.self.now in
    let told = told_some walk.packet.now walk.at _ _ _ (omega (arith, c.if-at-self.false)) (sym c.size_in.ensures ∙ c.in-Some.is) refl refl in
    let step = told_step _ _ _ _ told in
    let on : walk.at < walk.at + c.in-Some.size = step.0 in
    let last : walk.at + c.in-Some.size ≤ length walk.packet.now = step.1 in
    record { on = λ finite. (tt, finite, omega arith); keeps = tt; rests = λ finite. tt }

pub returns-in-None-clause-steps : goal.returns-in-None-clause-steps
returns-in-None-clause-steps c =
    let walk = c.args.self.now in
    (refl, refl, told_none walk.packet.now walk.at _ (omega (arith, c.if-at-self.false)) (sym c.size_in.ensures ∙ c.in-None.is) refl)
