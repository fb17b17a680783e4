use Rattle.bundle_contents.proofs.Contents.{id_told, offset_told, size_told}
use Rattle.bundle_contents.proofs.lines.Lines.first.Goals as goal

pub returns-clause-id : goal.returns-clause-id
returns-clause-id c = id_told _ _ c.args.self.begins

pub returns-clause-offset : goal.returns-clause-offset
returns-clause-offset c = offset_told _ _ c.args.self.begins c.number_at.ensures

pub returns-clause-size : goal.returns-clause-size
returns-clause-size c = size_told _ _ c.args.self.begins c.number_at-2.ensures
