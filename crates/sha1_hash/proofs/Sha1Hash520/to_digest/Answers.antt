-- The words of the last hash value are its digest.
use Rattle.std.proofs.Common.{◌≡◌, length, refl, ◌∙◌, rules}
use Rattle.fips180.proofs.Digests.{sha1_words}
use Rattle.sha1_hash.proofs.Sha1Hash520.to_digest.Goals as goal

pub returns : goal.returns
returns c =
    let value = c.args.value in
    let l : length value ≡ 5 = search rules in
    c.to_bytes.ensures refl ∙ sha1_words value l
