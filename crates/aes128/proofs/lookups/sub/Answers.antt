use mathlib.Core.Path.{◌≡◌, ap, ◌∙◌}
use Prim.Native.Nat.{ℕ}
use native.Mathlib.Omega.{arith}
use borrow.Author.Rules.{rules}
use lib.ListN.{get_or}
use Rattle.aes_sbox.specs.Tables.{sbox}
use Rattle.aes_sbox.proofs.Tables.{sbox_rule}
use Rattle.aes128.proofs.lookups.sub.Goals as goal

pub returns : goal.returns
returns c =
    let e : c.from.result ≡ c.args.b = search rules in
    c.sub.ensures ∙ ap (λ (x : ℕ). get_or sbox x 0) e ∙ sbox_rule c.args.b (omega arith)
