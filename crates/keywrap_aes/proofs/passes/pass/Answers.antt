-- `keywrap_aes::passes::pass` meets its contract: after k turns A and the blocks are those of the first k steps.
use mathlib.Core.Path.{◌≡◌, refl, ap, ◌∙◌}
use Prim.Native.Nat.{ℕ, ◌+◌, ◌-◌, ◌*◌}
use native.Mathlib.Omega.{arith}
use borrow.Author.Rules.{rules}
use borrow.Rule.Slice.PartMut.{same_len_mid}
use Rattle.keywrap_aes.specs.Internal.{walk}
use Rattle.keywrap_aes.proofs.passes.Parts.{walk-more}
use Rattle.keywrap_aes.proofs.passes.pass.Goals as goal

pub loop-k-init : goal.loop-k-init
unfolding walk
loop-k-init g c = record { same_length = refl; so_far = refl }

pub loop-k-preserved : goal.loop-k-preserved
loop-k-preserved g c =
    let l = c.loop-k in
    let s = c.args in
    let m : ℕ = c.from-at.result * 8 in
    let e : c.from-at.result ≡ c.place-i.result = search rules in
    record {
      same_length = same_len_mid {X = ℕ} m (m + 8 - m) l.b c.step-next.new.b c.step-next.auto.b ∙ l.invariant.same_length;
      so_far = walk-more (g.W.Way.step s.ks.now) _ (g.W.Way.place s.n) s.c l.k c.place-i.result _ m (m + 8 - m) _ _ _ _
          c.place-i.ensures.place refl (ap (λ (n : ℕ). n * 8) e) (omega arith) l.invariant.so_far c.step-next.ensures.next c.step-next.ensures.part;
    }
