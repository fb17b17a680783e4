-- `hmac_block::filled` meets its contract: as many bytes as there is room for, copied over zeros.
use Rattle.std.proofs.Common.{◌++◌, ℕ, List, length, take, ap, ◌∙◌}
use Rattle.rfc2104.proofs.Blocks.{drop-replicate}
use Rattle.hmac_block.proofs.filled.Goals as goal

pub returns : goal.returns
returns c =
    let s = c.args.s.now in
    c.copy.ensures ∙ ap (λ (l : List ℕ). take 64 s ++ l) (drop-replicate (length s) 64)
