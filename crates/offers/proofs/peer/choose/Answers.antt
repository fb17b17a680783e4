-- `offers::peer::choose` meets its contract: where the tests of the list pass, the position of the first supported offer decides.
use Rattle.std.proofs.Common.{sym, ◌∙◌}
use Rattle.refusal.proofs.Answering.{passed}
use Rattle.offer_rules.proofs.Rounds.{at_first, at_later}
use Rattle.offers.proofs.peer.Lists.{none_supported, supported_at}
use Rattle.offers.proofs.peer.choose.Goals as goal

pub returns-in_default : goal.returns-in_default
returns-in_default c =
    none_supported _ _ (passed c.check_offers.ensures c.in_ok-check_offers.was) (sym c.first_supported.ensures ∙ c.in_default.is)

pub returns-then-position-eq0 : goal.returns-then-position-eq0
returns-then-position-eq0 c =
    at_first _ _ c.if-position-eq0.true ∙ supported_at _ _ (passed c.check_offers.ensures c.in_ok-check_offers.was) (sym c.first_supported.ensures ∙ c.in-Some.is)

pub returns-else-position-eq0 : goal.returns-else-position-eq0
returns-else-position-eq0 c =
    at_later _ _ c.if-position-eq0.false ∙ supported_at _ _ (passed c.check_offers.ensures c.in_ok-check_offers.was) (sym c.first_supported.ensures ∙ c.in-Some.is)
