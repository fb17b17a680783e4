-- `packet_mac::check` meets its contract: where the tests pass, the 32 bytes are compared.
use Rattle.hmac.specs.Rfc2104.{hmac_sha256}
use Rattle.packet_mac.proofs.Answers.{check_done}
use Rattle.packet_mac.proofs.check.Goals as goal

pub returns : goal.returns
returns c =
    let x = c.args in
    check_done hmac_sha256 x.mac_key.now x.attribute_type x.packet.now _ c.in_ok-at.ensures.answer _ c.mac_of-mac.ensures c.same_bytes.ensures c.unless.ensures
