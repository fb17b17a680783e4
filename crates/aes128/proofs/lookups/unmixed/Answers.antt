use mathlib.Core.Path.{◌≡◌, ap, ◌∙◌}
use Prim.Native.Nat.{ℕ}
use native.Mathlib.Omega.{arith}
use borrow.Author.Rules.{rules}
use lib.ListN.{get_or}
use Rattle.aes_sbox.specs.Tables.{unmixed_sbox}
use Rattle.aes_sbox.proofs.Tables.{unmixed_rule}
use Rattle.aes128.proofs.lookups.unmixed.Goals as goal

pub returns : goal.returns
returns c =
    let e : c.from.result ≡ c.args.b = search rules in
    c.unmixed.ensures ∙ ap (λ (x : ℕ). get_or unmixed_sbox x 0) e ∙ unmixed_rule c.args.b (omega arith)
