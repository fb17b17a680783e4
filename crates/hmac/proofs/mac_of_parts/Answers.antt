use Rattle.fips180.specs.Sha256.{sha256}
use Rattle.hmac.specs.Rfc2104.{hmac_sha256}
use Rattle.hmac.proofs.mac_of_parts.Goals as goal

pub returns : goal.returns
unfolding hmac_sha256 sha256
returns c = c.mac_of_parts.ensures
