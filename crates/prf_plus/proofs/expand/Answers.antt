-- `prf_plus::expand` meets its contract: where the tests pass, the buffer has room.
use Rattle.std.proofs.Common.{length}
use Rattle.refusal.proofs.Answering.{passed}
use Rattle.prf_plus.proofs.Accepted.{expand_passed}
use Rattle.prf_plus.proofs.expand.Goals as goal

pub fill-requires-clause-n_bound : goal.fill-requires-clause-n_bound
fill-requires-clause-n_bound c = (expand_passed _ (length c.args.out.now) (passed c.check_expand.ensures c.in_ok-check_expand.was)).most

pub fill-requires-clause-n_in_bounds : goal.fill-requires-clause-n_in_bounds
fill-requires-clause-n_in_bounds c = (expand_passed _ (length c.args.out.now) (passed c.check_expand.ensures c.in_ok-check_expand.was)).fits
