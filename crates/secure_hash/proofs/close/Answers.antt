-- `secure_hash::close` meets its contract: one block more, or two (proofs/Closing.antt of fips180).
use Rattle.std.proofs.Common.{◌≡◌, ◌%◌, ◌≤◌, length, arith}
use Rattle.fips180.proofs.Closing.{close-one, close-two}
use Rattle.secure_hash.proofs.close.Goals as goal

pub returns-then-at-lt56 : goal.returns-then-at-lt56
returns-then-at-lt56 g c =
    let a = c.args in
    let l : length a.block.now ≡ 64 = c.requires in
    close-one g.H.Hash.compress a.value.now a.block.now a.count l c.mark.ensures c.if-at-lt56.true c.compress_last.ensures

pub returns : goal.returns
returns g c =
    let a = c.args in
    let l : length a.block.now ≡ 64 = c.requires in
    let m : 56 ≤ a.count % 64 = omega arith in
    close-two g.H.Hash.compress a.value.now a.block.now a.count l c.mark.ensures m c.compress_blocks.ensures c.compress_last-2.ensures
