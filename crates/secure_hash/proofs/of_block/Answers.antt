-- One block compressed.
use Rattle.std.proofs.Common.{◌≡◌, length, ap, ◌∙◌, rules}
use Rattle.fips180.proofs.Blocks.{one_block}
use Rattle.secure_hash.proofs.of_block.Goals as goal

pub returns : goal.returns
returns g c =
    let h = g.H.Hash in
    let b = c.args.block in
    let l : length b ≡ 64 = search rules in
    c.compress_blocks.ensures ∙ one_block h.compress _ b l ∙ ap (λ v. h.compress v b) c.first_value-value.ensures
