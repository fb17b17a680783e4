-- `list_offers::list` is safe and ends: the count that an area is read with is within the buffer lent for the offers.
use mathlib.Core.Path.{sym}
use lib.Seq.{length-take-le}
use Rattle.area.proofs.Using.{count-within}
use Rattle.list_offers.proofs.list.Goals as goal

pub slice_bounds-out-end : goal.slice_bounds-out-end
slice_bounds-out-end g c = count-within _ _ _ _ _ c.in-Ok.ensures.answer c.in-Ok.ensures.buffer

pub slice_bounds-offer-items-end : goal.slice_bounds-offer-items-end
slice_bounds-offer-items-end g c = sym (length-take-le _ _ (count-within _ _ _ _ _ c.in-Ok.ensures.answer c.in-Ok.ensures.buffer))
