-- `refusal::put` where there is room: the bytes stand at the start of the buffer.
use Rattle.slices.proofs.Lists.{copied_front}
use Rattle.slices.proofs.Copies.{copied_fits}
use borrow.Author.Tests.{leb-true}
use Rattle.refusal.proofs.Passing.{test_passed}
use Rattle.refusal.proofs.Answering.{passed}
use Rattle.refusal.proofs.put.Goals as goal

pub returns-clause-buffer : goal.returns-clause-buffer
returns-clause-buffer c =
    let room = passed c.check_room.ensures c.in_ok-check_room.was in
    let fits = leb-true _ _ (test_passed _ _ room) in
    rw room (copied_front c.args.bytes.now c.args.out.now (copied_fits _ _ fits c.copy.ensures))
