-- `packet_mac::sign` meets its contract: where the tests pass, the MAC is made of the packet as lent and then written.
use mathlib.Core.Path.{ap, ◌∙◌}
use native.Mathlib.Omega.{arith}
use lib.ListN.{length}
use Rattle.hmac.specs.Rfc2104.{hmac_sha256}
use Rattle.hmac.proofs.Laws.{hmac_sha256-length}
use Rattle.packet_mac.proofs.Answers.{sign-done}
use Rattle.packet_mac.proofs.sign.Goals as goal

pub returns-clause-buffer : goal.returns-clause-buffer
returns-clause-buffer c =
    let x = c.args in
    let l = ap length c.mac_of-mac.ensures ∙ hmac_sha256-length _ _ in
    sign-done hmac_sha256 x.mac_key.now x.attribute_type x.packet.now _ c.in_ok-at.ensures.answer _ c.mac_of-mac.ensures l (c.copy_at.ensures.fits (omega (arith, l, c.in_ok-at.ensures.room)))
