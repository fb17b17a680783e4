use Rattle.std.proofs.Common.{◌≡◌, ◌+◌, subst, ap, ◌∙◌, lit≤, arith}
use Rattle.fips180.specs.Sha1.{rounds}
use Rattle.sha1_block.specs.Internal.{Four}
use Rattle.sha1_block.proofs.Rounds.{by_kind}
use Rattle.sha1_block.proofs.window.sixteen.Goals as goal

pub returns : goal.returns
returns g c = λ h b t first second third last ew es.
    let a = g.A.Kind in
    let start : t ≡ t + 0 = omega arith in
    let s4 = by_kind h b t 0 a.f a.K (lit≤ tt) (subst (Four a.f a.K) start first) ew (es ∙ ap (rounds h b) start) c.four-s4.ensures in
    let s8 = by_kind h b t 4 g.B.Kind.f g.B.Kind.K (lit≤ tt) second ew s4 c.four-s8.ensures in
    let s12 = by_kind h b t 8 g.C.Kind.f g.C.Kind.K (lit≤ tt) third ew s8 c.four-s12.ensures in
    by_kind h b t 12 g.D.Kind.f g.D.Kind.K (lit≤ tt) last ew s12 c.four.ensures
