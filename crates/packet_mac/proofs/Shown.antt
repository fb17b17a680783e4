-- What is shown of signing and checking, of HMAC-SHA-256.
use Rattle.hmac.specs.Rfc2104.{hmac_sha256}
use Rattle.hmac.proofs.Laws.{hmac_sha256-length}
use Rattle.packet_rules.specs.Statements.{SignedPasses, OthersStay, SignsAgain, OnlySigned}
use Rattle.packet_rules.proofs.Shown as any

pub signed_passes : SignedPasses hmac_sha256
signed_passes = any.signed_passes_lem hmac_sha256 hmac_sha256-length

pub others_stay : OthersStay hmac_sha256
others_stay = any.others_stay_lem hmac_sha256 hmac_sha256-length

pub signs_again : SignsAgain hmac_sha256
signs_again = any.signs_again_lem hmac_sha256 hmac_sha256-length

pub only_signed : OnlySigned hmac_sha256
only_signed = any.only_signed_lem hmac_sha256 hmac_sha256-length
