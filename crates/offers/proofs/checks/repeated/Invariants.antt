use Rattle.std.proofs.Common.{◌≡◌, drop}
use Rattle.offer_rules.specs.Rfc5448.{repeats}
use Rattle.offers.proofs.checks.repeated.Given as goal

abbrev pub invariant-loop-i : goal.invariant-loop-i
invariant-loop-i l = repeats l.list ≡ repeats (drop l.i l.list)
