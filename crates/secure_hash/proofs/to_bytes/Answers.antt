-- `secure_hash::to_bytes` meets its contract: after j turns, the first j words are written (proofs/Digests.antt, `next_word`).
use Rattle.std.proofs.Common.{◌≡◌, length, arith, rules}
use Rattle.secure_hash.proofs.Digests.{none_written, next_word, all_written}
use Rattle.secure_hash.proofs.to_bytes.Goals as goal

pub loop-j-init : goal.loop-j-init
loop-j-init g c = λ e. none_written c.args.words g.row.BYTES

pub loop-j-preserved : goal.loop-j-preserved
loop-j-preserved g c = λ e.
    let l = c.loop-j in
    let n : length c.args.words ≡ g.row.WORDS = search rules in
    next_word c.args.words g.row.BYTES l.j _ (omega arith) (omega arith) (l.invariant e) c.be32.ensures c.copy_at.ensures.fits

pub returns : goal.returns
returns g c = λ e.
    let n : length c.args.words ≡ g.row.WORDS = search rules in
    all_written c.args.words g.row.BYTES c.loop-j.j (omega arith) (omega arith) (c.loop-j.invariant e)
