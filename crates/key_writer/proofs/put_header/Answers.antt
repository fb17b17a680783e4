-- `key_writer::put_header` meets its contract: six parts, one after the other, are the header.
use borrow.Author.Rules.{rules}
use Rattle.key_writer.proofs.Parts.{header-parts}
use Rattle.key_writer.proofs.put_header.Goals as goal

pub returns : goal.returns
returns c =
    let f = c.args.fields in
    header-parts f c.args.length_byte _ _ c.args.out.now _ _ _ _ _ _ (search rules) (search rules) c.be32.ensures c.be32-2.ensures
    (c.copy_at.ensures.fits (search rules))
    (c.copy_at-2.ensures.fits (search rules))
    (c.copy_at-3.ensures.fits (search rules))
    (c.copy_at-4.ensures.fits (search rules))
    (c.copy_at-5.ensures.fits (search rules))
    (c.copy_at-6.ensures.fits (search rules))
