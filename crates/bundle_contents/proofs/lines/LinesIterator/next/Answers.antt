use Rattle.std.proofs.Common.{length, ap, arith, rules}
use Rattle.bundle_contents.specs.Walks.{lines_left}
use Rattle.bundle_contents.proofs.Contents.{lines_read, lines_done}
use Rattle.bundle_contents.proofs.lines.LinesIterator.next.Goals as goal

pub returns-then-self-clause-steps : goal.returns-then-self-clause-steps
unfolding lines_left
returns-then-self-clause-steps c =
    let s = c.args.self.now in
    let e = c.first-line.ensures in
    lines_read s.file.now s.at s.count c.if-self.true e.id e.offset e.size

pub returns-then-self-clause-goes : goal.returns-then-self-clause-goes
unfolding lines_left
returns-then-self-clause-goes c =
    let s = c.args.self.now in
    let e = c.first-line.ensures in
    let shorter = ap length (lines_read s.file.now s.at s.count c.if-self.true e.id e.offset e.size) in
    search rules

pub returns-else-self-clause-steps : goal.returns-else-self-clause-steps
unfolding lines_left
returns-else-self-clause-steps c =
    let s = c.args.self.now in
    let none = lines_done s.file.now s.at s.count (omega (arith, c.if-self.false)) in
    (none, none)
