use Rattle.std.proofs.Common.{arith, rules}
use Rattle.bundle_contents.proofs.Attributes.{no_bytes, none_packed, first_of}
use Rattle.bundle_contents.proofs.bodies.BodiesIterator.next.Goals as goal

pub returns-then-is_empty-clause-steps : goal.returns-then-is_empty-clause-steps
returns-then-is_empty-clause-steps c =
    let none = none_packed c.args.self.now.bytes.now (no_bytes _ (search rules)) in
    (none, none)

pub bounds-self-1 : goal.bounds-self-1
bounds-self-1 c =
    let s = c.args.self.now in
    (first_of s.bytes.now (search rules) s.pass).two

pub split_at-requires : goal.split_at-requires
split_at-requires c =
    let s = c.args.self.now in
    let first = first_of s.bytes.now (search rules) s.pass in
    omega (arith, first.fits, c.from-size.ensures)

pub invariant_of-self : goal.invariant_of-self
invariant_of-self c =
    let s = c.args.self.now in
    let first = first_of s.bytes.now (search rules) s.pass in
    record { pass = rw (c.split_at.ensures.back, c.from-size.ensures) first.later }

pub invariant_of-result : goal.invariant_of-result
invariant_of-result c =
    let s = c.args.self.now in
    let first = first_of s.bytes.now (search rules) s.pass in
    record { passes = rw (c.split_at.ensures.front, c.from-size.ensures) first.frame }

pub returns-clause-steps : goal.returns-clause-steps
returns-clause-steps c =
    let s = c.args.self.now in
    let first = first_of s.bytes.now (search rules) s.pass in
    rw (c.split_at.ensures.front, c.split_at.ensures.back, c.from-size.ensures) first.next

pub returns-clause-goes : goal.returns-clause-goes
returns-clause-goes c =
    let s = c.args.self.now in
    let first = first_of s.bytes.now (search rules) s.pass in
    let shorter = rw (← c.from-size.ensures, ← c.split_at.ensures.back) at first.shorter in
    search rules
