-- What signing and checking answer, by what the tests came to and where the attribute stands.
use Prim.Native.Nat.{ℕ, ◌+◌, ◌-◌}
use mathlib.Core.Path.{◌≡◌, ap, ◌∙◌}
use mathlib.Core.Bool.{Bool}
use mathlib.Core.List.{List, ◌++◌}
use native.Mathlib.Omega.{arith}
use lib.ListN.{length, take, drop, replicate}
use Rattle.refusal.specs.Checks.{Check, pass, bare, unless}
use Rattle.refusal.specs.Answers.{returned, answer_to}
use Rattle.slices.specs.Same.{same_list}
use Rattle.refusal.proofs.Answering.{told_count}
use Rattle.packet_rules.specs.Packet.{mac_at}
use Rattle.packet_rules.specs.Mac.{with_mac, mac_in, mac_input, packet_check, mac_of, check_check, sign_buffer}

-- the attribute's place was given: the tests passed, and a MAC was made for it
module _ (mac : List ℕ → List ℕ → List ℕ) (key : List ℕ) (type : ℕ) (p : List ℕ) (n : ℕ) (given : returned n ≡ answer_to (packet_check key type p) (mac_at type p)) (m : List ℕ)
    (made : m ≡ mac key (with_mac n (replicate 32 0) p)) where
  passes : packet_check key type p ≡ pass
  passes = (told_count (packet_check key type p) (mac_at type p) n given).0

  there : n ≡ mac_at type p
  there = (told_count (packet_check key type p) (mac_at type p) n given).1

  mac-made : m ≡ mac_of mac key type p
  unfolding mac_of mac_input
  mac-made = made ∙ ap (λ (k : ℕ). mac key (with_mac k (replicate 32 0) p)) there

  -- it is written over the one in the packet
  pub sign-done : {after : List ℕ} → length m ≡ 32 → after ≡ take (n + 20) p ++ (m ++ drop (n + 20 + length m) p) → after ≡ sign_buffer mac key type p
  unfolding sign_buffer with_mac
  sign-done l e =
      let end : n + 20 + length m ≡ n + 52 = omega arith in
      rw passes (rw end at e ∙ λ i. with_mac (there i) (mac-made i) p)

  -- or compared with it
  pub check_done : {same : Bool} {c : Check} → same ≡ same_list (take (n + 52 - (n + 20)) (drop (n + 20) p)) m → c ≡ unless same (bare 38) → c ≡ check_check mac key type p
  unfolding check_check mac_in
  check_done s e =
      let k : n + 52 - (n + 20) ≡ 32 = omega arith in
      rw passes (e ∙ ap (λ (b : Bool). unless b (bare 38)) (s ∙ λ i. same_list (take (k i) (drop (there i + 20) p)) (mac-made i)))
