-- A handover key is made of the MACs of its inputs, and some requests are accepted.
use Prim.Native.Nat.{ℕ}
use mathlib.Core.Path.{◌≡◌, refl, ap, ◌∙◌}
use mathlib.Core.List.{List, ◌++◌}
use native.Mathlib.Omega.{arith}
use lib.ListN.{length, take, length-append}
use lib.Seq.{length-take-le}
use Rattle.refusal.specs.Checks.{unless}
use Rattle.hmac_sha1.specs.Rfc2104.{hmac_sha1}
use Rattle.hmac_sha1.proofs.Laws.{hmac_sha1-length}
use Rattle.handover_rules.specs.Kdf.{kdf_input, iterations, result_after, kdf}
use Rattle.handover_rules.specs.Handover.{r0_label, r1_label, r0_input, r1_input, r0_key, r1_key, r0_check, r1_check, r0_name_check}
use Rattle.handover_rules.specs.Statements.{InputBytes, KeyOfBlocks, SomeAccepted}

pub input_bytes : InputBytes
unfolding r0_input r1_input kdf_input r0_label r1_label
input_bytes ad an spa = (refl, refl)

-- 32 of the 40 bytes of two MACs
two_macs : (key x y : List ℕ) → length (take 32 (hmac_sha1 key x ++ hmac_sha1 key y)) ≡ 32
two_macs key x y =
    length-take-le 32 (hmac_sha1 key x ++ hmac_sha1 key y)
    (omega (arith, length-append (hmac_sha1 key x) (hmac_sha1 key y), hmac_sha1-length key x, hmac_sha1-length key y))

pub r0_of_blocks : (rrk ad spa : List ℕ) → r0_key rrk ad spa ≡ take 32 (hmac_sha1 (take 32 rrk) (r0_input ad spa 1) ++ hmac_sha1 (take 32 rrk) (r0_input ad spa 2))
unfolding r0_key r0_input kdf iterations result_after
r0_of_blocks rrk ad spa = refl

pub r1_of_blocks : (r0 ad an spa : List ℕ) → r1_key r0 ad an spa ≡ take 32 (hmac_sha1 r0 (r1_input ad an spa 1) ++ hmac_sha1 r0 (r1_input ad an spa 2))
unfolding r1_key r1_input kdf iterations result_after
r1_of_blocks r0 ad an spa = refl

pub key_of_blocks : KeyOfBlocks
unfolding iterations
key_of_blocks = (
  refl,
  r0_of_blocks,
  r1_of_blocks,
  λ rrk ad spa. ap length (r0_of_blocks rrk ad spa) ∙ two_macs _ _ _,
  λ r0 ad an spa. ap length (r1_of_blocks r0 ad an spa) ∙ two_macs _ _ _,
)

pub some_accepted : SomeAccepted
unfolding r0_check r1_check r0_name_check unless
some_accepted = (refl, refl, refl, refl, refl, refl, refl)
