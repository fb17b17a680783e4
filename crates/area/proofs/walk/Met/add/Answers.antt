-- `area::walk::Met::add` meets its contract: the attribute that was matched, and what was met before it, say which clause of `read_on` holds.
use Rattle.area_format.specs.Area.{read_on}
use Rattle.area.proofs.Keeping.{offer_met}
use Rattle.area.proofs.walk.Met.add.Goals as goal

pub returns-in-Faulty : goal.returns-in-Faulty
unfolding read_on
returns-in-Faulty c = λ later. rw c.in-Faulty.is

pub returns-in-Other : goal.returns-in-Other
unfolding read_on
returns-in-Other c = λ later. rw c.in-Other.is

pub returns-in-Offer : goal.returns-in-Offer
returns-in-Offer c = λ later. rw c.in-Offer.is (offer_met _ _ _ _ _ _ later c.push.ensures)

pub returns-in-Some : goal.returns-in-Some
unfolding read_on
returns-in-Some c = λ later. rw (c.in-Named.is, c.in-Some.is)

pub returns-in-None : goal.returns-in-None
unfolding read_on
returns-in-None c = λ later. rw (c.in-Named.is, c.in-None.is)
