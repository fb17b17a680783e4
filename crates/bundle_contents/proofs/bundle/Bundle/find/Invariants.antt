use Rattle.bundle_rules.specs.Bundle.{bodies_of}
use Rattle.bundle_contents.specs.Walks.{lines_left, first_with}
use Rattle.bundle_contents.proofs.Finding.{Sought}
use Rattle.bundle_contents.proofs.bundle.Bundle.find.Given as goal

abbrev pub invariant-loop-line : goal.invariant-loop-line
invariant-loop-line l = Sought l.file l.id (first_with l.id (bodies_of l.fn.self.file.now)) (lines_left l.line-iterator)
