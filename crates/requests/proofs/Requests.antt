-- The key of a request is made of its blocks, a VRK is the usage request with its label, and some requests are accepted.
use Prim.Native.Nat.{ℕ, zero, suc}
use mathlib.Core.Path.{◌≡◌, refl}
use mathlib.Core.List.{List}
use native.Mathlib.Nat.{not-suc-le-zero}
use Rattle.refusal.specs.Checks.{pass, unless, within}
use Rattle.refusal.proofs.Passing.{then-pass}
use Rattle.slices.specs.Same.{same_list}
use Rattle.labels.specs.Bytes.{every, label_byte, domain_byte}
use Rattle.labels.specs.FixedLabels.{vrk_label, visited_reauth_label, dsrk_label, rrk_label, exempt}
use Rattle.labels.specs.Checks.{label_check, check8, check31, check32}
use Rattle.labels.specs.Syntax.{breaches}
use Rattle.labels.proofs.Labels.{fixed_labels_pass}
use Rattle.hmac.specs.Rfc2104.{hmac_sha256}
use Rattle.hmac.proofs.Laws.{hmac_sha256-length}
use Rattle.prf_plus.specs.PrfPlus.{block, prf_plus_of}
use Rattle.prf_plus.proofs.Laws.{count-le, block_of_input, prf_plus_of-length}
use Rattle.requests.specs.Requests.{Request, BlockOf, length_of, check_of, text_of, input_of, key_of}
use Rattle.requests.specs.Statements.{KeyOfBlocks, VrkIsUsage, SomeAccepted}
use Rattle.requests.proofs.Accepting.{sound}

-- each block is HMAC of its input
block_of_request : (emsk : List ℕ) (r : Request) (i : ℕ) → BlockOf r i → block hmac_sha256 emsk (text_of r) i ≡ hmac_sha256 emsk (input_of emsk r i)
unfolding input_of
block_of_request emsk r zero b = absurd (not-suc-le-zero b.0)
block_of_request emsk r (suc i) b = block_of_input hmac_sha256 emsk (text_of r) i

pub key_of_blocks : KeyOfBlocks
unfolding key_of prf_plus_of
key_of_blocks emsk r = (
  refl,
  block_of_request emsk r,
  prf_plus_of-length hmac_sha256 hmac_sha256-length emsk (text_of r) (length_of r),
  λ a. count-le (length_of r) (sound emsk r a).high,
)

vrk_not_domain : check31 vrk_label ≡ pass
unfolding check31 vrk_label dsrk_label same_list unless
vrk_not_domain = refl

-- a VRK's label, data and length pass the tests of a usage request
pub vrk_is_usage : VrkIsUsage
unfolding check_of unless within text_of input_of key_of
vrk_is_usage emsk room = (simp (fixed_labels_pass.0, vrk_not_domain, then-pass), refl, refl, λ i. refl)

pub some_accepted : SomeAccepted
unfolding check_of label_check check31 check32 breaches exempt check8 vrk_label visited_reauth_label rrk_label dsrk_label same_list unless within label_byte every domain_byte
some_accepted = (refl, refl, refl, refl, refl, refl, refl, refl)
