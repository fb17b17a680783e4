use Rattle.std.proofs.Common.{◌+◌, ◌%◌, ◌^◌, ◌∙◌}
use Rattle.fips180.specs.Sha256.{next_w}
use Rattle.sha_blocks.proofs.Terms.{four_terms}
use Rattle.sha256_block.proofs.Sha256Schedule.next_word.Goals as goal

pub returns : goal.returns
unfolding next_w
returns c =
    let a = c.args in
    four_terms c.small_sigma1.result a.between c.small_sigma0.result a.oldest
    ∙ (λ i. (c.small_sigma1.ensures i + a.between + c.small_sigma0.ensures i + a.oldest) % 2 ^ 32)
