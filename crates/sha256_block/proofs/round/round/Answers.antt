use Rattle.std.proofs.Common.{ℕ, ◌+◌, ◌%◌, ◌^◌, [], ◌∷◌, get_or, ◌∙◌}
use Rattle.fips180.specs.Sha256.{round, T1, T2}
use Rattle.sha_blocks.proofs.Terms.{five_terms}
use Rattle.sha256_block.proofs.round.round.Goals as goal

pub returns : goal.returns
unfolding round T1 T2
returns c =
    let k = c.args.k in
    let w = c.args.w in
    let s : ℕ → ℕ = λ n. get_or c.args.s n 0 in
    let t1 = five_terms (s 7) c.big_sigma1.result c.ch.result k w ∙ (λ i. (s 7 + c.big_sigma1.ensures i + c.ch.ensures i + k + w) % 2 ^ 32) in
    λ i. (t1 i + (c.big_sigma0.ensures i + c.maj.ensures i) % 2 ^ 32) % 2 ^ 32 ∷ s 0 ∷ s 1 ∷ s 2 ∷ (s 3 + t1 i) % 2 ^ 32 ∷ s 4 ∷ s 5 ∷ s 6 ∷ []
