use Rattle.bundle_rules.specs.Bundle.{packed}
use Rattle.bundle_contents.specs.Walks.{bodies_left}
use Rattle.bundle_writer.proofs.Lines.{Lined}
use Rattle.bundle_writer.proofs.put_lines.Given as goal

abbrev pub invariant-loop-body : goal.invariant-loop-body
invariant-loop-body l = Lined (packed l.fn.bodies.bytes.now) l.initial.out l.out (bodies_left l.body-iterator) l.offset l.at
