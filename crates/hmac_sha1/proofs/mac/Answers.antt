use Rattle.fips180.specs.Sha1.{sha1}
use Rattle.hmac_sha1.specs.Rfc2104.{hmac_sha1}
use Rattle.hmac_sha1.proofs.mac.Goals as goal

pub returns : goal.returns
unfolding hmac_sha1 sha1
returns c = c.mac.ensures
