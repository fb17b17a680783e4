-- The MAC by the hash values that are kept of a key is RFC 2104's (`KeptValuesGiveMac` of rfc2104).
use Rattle.std.proofs.Common.{◌∙◌}
use Rattle.rfc2104.specs.Keyed.{mac_by_values_by}
use Rattle.rfc2104.proofs.Laws.{kept_values_give_mac}
use Rattle.slices.specs.Parts.{joined}
use Rattle.keyed_hash.proofs.mac_of_parts.Goals as goal

pub returns : goal.returns
returns g c =
    let h = g.H.Hash in
    let text = joined c.args.parts.now in
    let e = c.new.ensures in
    c.mac_of_parts.ensures ∙ (λ i. mac_by_values_by h.compress h.written (e.inner i) (e.outer i) text)
    ∙ kept_values_give_mac h.compress h.first h.written g.met.H.Hash.digest_fits c.args.key.now text
