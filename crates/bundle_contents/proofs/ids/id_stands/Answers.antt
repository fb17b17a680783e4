use Rattle.std.proofs.Common.{sym}
use Rattle.bundle_contents.proofs.Walking.{stands_on, stands-not}
use Rattle.bundle_contents.proofs.ids.id_stands.Goals as goal

pub returns-then-same_words : goal.returns-then-same_words
returns-then-same_words g c = sym (stands_on c.in-Some.ensures.1 _ c.same_words.ensures c.if-same_words.true c.loop-other.invariant)

pub loop-other-preserved : goal.loop-other-preserved
loop-other-preserved g c = stands_on c.in-Some.ensures.1 _ c.same_words.ensures c.if-same_words.false c.loop-other.invariant

pub returns : goal.returns
returns g c = stands-not _ c.in_default.ensures c.loop-other.invariant
