-- The digest of the inner hash is hashed after the outer value.
use Rattle.std.proofs.Common.{ap, ◌∙◌}
use Rattle.rfc2104.specs.Keyed.{hash_after_by}
use Rattle.keyed_hash.proofs.Keyed.finish.Goals as goal

pub returns : goal.returns
returns g c = let h = g.H.Hash in c.outer_digest.ensures ∙ ap (hash_after_by h.compress h.written _) c.finish-digest.ensures
