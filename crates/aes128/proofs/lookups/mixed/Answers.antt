use mathlib.Core.Path.{◌≡◌, ap, ◌∙◌}
use Prim.Native.Nat.{ℕ}
use native.Mathlib.Omega.{arith}
use borrow.Author.Rules.{rules}
use lib.ListN.{get_or}
use Rattle.aes_sbox.specs.Tables.{mixed_sbox}
use Rattle.aes_sbox.proofs.Tables.{mixed_rule}
use Rattle.aes128.proofs.lookups.mixed.Goals as goal

pub returns : goal.returns
returns c =
    let e : c.from.result ≡ c.args.b = search rules in
    c.mixed.ensures ∙ ap (λ (x : ℕ). get_or mixed_sbox x 0) e ∙ mixed_rule c.args.b (omega arith)
