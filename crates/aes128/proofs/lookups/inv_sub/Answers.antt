use mathlib.Core.Path.{◌≡◌, ap, ◌∙◌}
use Prim.Native.Nat.{ℕ}
use native.Mathlib.Omega.{arith}
use borrow.Author.Rules.{rules}
use lib.ListN.{get_or}
use Rattle.aes_sbox.specs.Tables.{inv_sbox}
use Rattle.aes_sbox.proofs.Tables.{inv_sbox_rule}
use Rattle.aes128.proofs.lookups.inv_sub.Goals as goal

pub returns : goal.returns
returns c =
    let e : c.from.result ≡ c.args.b = search rules in
    c.inv_sub.ensures ∙ ap (λ (x : ℕ). get_or inv_sbox x 0) e ∙ inv_sbox_rule c.args.b (omega arith)
