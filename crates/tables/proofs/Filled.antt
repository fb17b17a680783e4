-- An array that a loop fills from its start.
use mathlib.Core.Path.{◌≡◌, sym, subst}
use mathlib.Core.Logic.{⊎_elim}
use Prim.Native.Nat.{ℕ, ◌<◌, ◌≤◌}
use native.Mathlib.Nat.{eq-or-lt_of_le}
use native.Mathlib.Omega.{arith}
use lib.ListN.{get_or, set}
use lib.Seq.{get_or-set_same, get_or-set_other}
use Rattle.tables.specs.Statements.{Filled}

pub filled : Filled
filled A P l i x d h px before k lt =
    let le : k ≤ i = omega arith in
    ⊎_elim
    (λ (e : k ≡ i). subst (λ (m : ℕ). P m (get_or (set l i x) m d)) (sym e) (subst (P i) (sym (get_or-set_same l i x d h)) px))
    (λ (b : k < i). subst (P k) (sym (get_or-set_other l i k x d (λ e. omega (arith, e)))) (before k b))
    (eq-or-lt_of_le le)
