-- `offer_exchange::negotiate` meets its contract.
use Rattle.std.proofs.Common.{sym}
use lib.Seq.{length-take-le}
use Rattle.offer_exchange.proofs.Steps.{sent_within}
use Rattle.offer_exchange.proofs.negotiate.Goals as goal

-- the count that the server answers lies within its buffer
pub slice_bounds-recheck-end : goal.slice_bounds-recheck-end
slice_bounds-recheck-end c = sent_within _ _ _ _ c.answer.ensures.answer c.in_ok-count.was c.answer.auto.out

pub slice_bounds-recheck-end-2 : goal.slice_bounds-recheck-end-2
slice_bounds-recheck-end-2 c = sym (length-take-le _ _ (sent_within _ _ _ _ c.answer.ensures.answer c.in_ok-count.was c.answer.auto.out))
