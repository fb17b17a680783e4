use mathlib.Core.Path.{◌≡◌, ap, ◌∙◌}
use mathlib.Core.Bool.{cond}
use Prim.Native.Nat.{ℕ, ◌/◌, ◌%◌, ◌<◌}
use native.Mathlib.Omega.{arith}
use borrow.Author.Tests.{ne_eqb}
use lib.Dec.{eqb}
use lib.ListN.{get_or, set, length-set}
use lib.Pow.{shr-shr}
use Rattle.slots.proofs.Steps.{filled_next, filled_whole}
use Rattle.slots.proofs.tree.all_steps.Goals.{then-left-eq1, else-left-eq1}
use Rattle.slots.proofs.tree.all_steps.Goals as goal

pub loop-s-preserved : goal.loop-s-preserved
loop-s-preserved c =
    let w = c.args.taken in
    let parents = c.args.parents.now in
    let l = c.loop-s in
    let e : c.if-left-eq1.steps ≡ cond (eqb (l.left % 2) 1) (get_or parents l.s 0) 255
    = elim c.if-left-eq1.branch [
      | then-left-eq1 t ↦ simp (t.if-left-eq1.true) t.steps-is
      | else-left-eq1 t ↦ simp (ne_eqb _ 1 t.if-left-eq1.false) t.steps-is
    ] in
    let at = e ∙ ap (λ (v : ℕ). cond (eqb (v % 2) 1) (get_or parents l.s 0) 255) l.invariant.1 in (
      length-set l.steps l.s c.if-left-eq1.steps ∙ l.invariant.0,
      ap (λ (v : ℕ). v / 2) l.invariant.1 ∙ shr-shr w l.s 1,
      λ j k. ap (λ (v : ℕ). get_or (set l.steps l.s v) j 0) at ∙ filled_next w parents l.steps l.s c.loop-s-test.true l.invariant.0 l.invariant.2 j k,
    )

pub returns : goal.returns
returns c =
    let l = c.loop-s in
    filled_whole c.args.taken c.args.parents.now l.steps (λ j h. let k : j < l.s = omega arith in l.invariant.2 j k)
