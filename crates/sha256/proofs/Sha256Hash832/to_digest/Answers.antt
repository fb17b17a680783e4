-- The words of the last hash value are its digest.
use Rattle.std.proofs.Common.{◌≡◌, length, refl, ◌∙◌, rules}
use Rattle.fips180.proofs.Digests.{sha256_words}
use Rattle.sha256.proofs.Sha256Hash832.to_digest.Goals as goal

pub returns : goal.returns
returns c =
    let value = c.args.value in
    let l : length value ≡ 8 = search rules in
    c.to_bytes.ensures refl ∙ sha256_words value l
