use Rattle.bundle_rules.specs.Bundle.{line_of}
use Rattle.bundle_writer.proofs.Parts.{line_parts}
use Rattle.bundle_writer.proofs.put_line.Goals as goal

pub returns : goal.returns
unfolding line_of
returns c =
    let x = c.args in
    let offset = c.be16.ensures in
    let size = c.be16-2.ensures in
    line_parts x.at x.offset _ x.body.bytes.now x.out.now c.requires c.id.ensures.id c.id.ensures.long offset size c.copy_at.ensures.fits c.copy_at-2.ensures.fits c.copy_at-3.ensures.fits
