-- `keywrap_aes::passes::all_passes` meets its contract: after j turns A and the blocks are those of the first j passes.
use mathlib.Core.Path.{refl, ◌∙◌}
use Rattle.keywrap_aes.specs.Internal.{walks}
use Rattle.keywrap_aes.proofs.passes.Parts.{walks_more}
use Rattle.keywrap_aes.proofs.passes.all_passes.Goals as goal

pub loop-j-init : goal.loop-j-init
unfolding walks
loop-j-init g c = record { same_length = refl; so_far = refl }

pub loop-j-preserved : goal.loop-j-preserved
loop-j-preserved g c =
    let l = c.loop-j in
    let s = c.args in
    record {
      same_length = c.pass-next.auto.b ∙ l.invariant.same_length;
      so_far = walks_more (g.W.Way.step s.ks.now) _ g.W.Way.place s.n l.j c.place.result _ _ _ _ _
          c.place.ensures.place refl l.invariant.so_far c.pass-next.ensures.next c.pass-next.ensures.part;
    }
