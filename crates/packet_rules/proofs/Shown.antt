-- What is shown of signing and checking (specs/Statements.antt).
use Prim.Native.Nat.{ℕ}
use mathlib.Core.Path.{◌≡◌, refl, sym, ap, ◌∙◌}
use mathlib.Core.List.{List}
use lib.ListN.{length, replicate}
use Rattle.refusal.specs.Checks.{Reason, Check, pass, refuse, unless, ◌and_then◌}
use Rattle.refusal.specs.Answers.{returned, answer_to}
use Rattle.slices.proofs.Same.{equal_same, same_equal}
use Rattle.refusal.proofs.Passing.{before-passed, last-passed, test_passed}
use Rattle.packet_rules.specs.Packet.{mac_at}
use Rattle.packet_rules.specs.Mac.{with_mac, mac_in, mac_input, packet_check, mac_of, check_check, sign_answer, sign_buffer}
use Rattle.packet_rules.specs.Statements.{Has32, AgreeOutside, SignedPasses, OthersStay, SignsAgain, OnlySigned, Covered}
use Rattle.packet_rules.proofs.Macs.{agree_sym, agree_trans, with_agrees, mac-found, with_same, with_own}
use Rattle.packet_rules.proofs.Placing.{Placed, same_place, same_check, passed_placed}

agree_refl : (at : ℕ) (p : List ℕ) → AgreeOutside at p p
agree_refl at p = record { lengths = refl; bytes = λ j o. refl }

-- what the MAC covers agrees with the packet, and has the MAC's attribute at the same place
blank_agrees : (type : ℕ) (p : List ℕ) → Placed type p → AgreeOutside (mac_at type p) (mac_input type p) p
unfolding mac_input
blank_agrees type p h = with_agrees (mac_at type p) (replicate 32 0) p refl h.room

blank_place : (type : ℕ) (p : List ℕ) → Placed type p → mac_at type p ≡ mac_at type (mac_input type p)
blank_place type p h = same_place type p (mac_input type p) h (agree_sym (blank_agrees type p h))

-- packets that agree outside the MAC hand HMAC the same bytes
same_input : (type : ℕ) (p q : List ℕ) → Placed type p → AgreeOutside (mac_at type p) p q → mac_input type p ≡ mac_input type q
unfolding mac_input
same_input type p q h a = with_same (mac_at type p) (replicate 32 0) p q h.room a ∙ ap (λ (at : ℕ). with_mac at (replicate 32 0) q) (same_place type p q h a)

pub covered : Covered
covered key₁ key₂ p q type cp cq = (forth (passed_placed key₁ type p cp) (passed_placed key₂ type q cq), same_input type p q (passed_placed key₁ type p cp))
  where
    forth : Placed type p → Placed type q → mac_input type p ≡ mac_input type q → AgreeOutside (mac_at type p) p q
    forth hp hq e =
        let m : mac_at type q ≡ mac_at type p = blank_place type q hq ∙ ap (mac_at type) (sym e) ∙ sym (blank_place type p hp) in
        let aq : AgreeOutside (mac_at type p) (mac_input type q) q = rw m at (blank_agrees type q hq) in
        agree_trans (rw e at (agree_sym (blank_agrees type p hp))) aq

module _ (mac : List ℕ → List ℕ → List ℕ) (law : Has32 mac) where
  -- the packet signed
  signed : List ℕ → ℕ → List ℕ → List ℕ
  signed key type p = with_mac (mac_at type p) (mac_of mac key type p) p

  mac-size : (key : List ℕ) (type : ℕ) (p : List ℕ) → length (mac_of mac key type p) ≡ 32
  unfolding mac_of
  mac-size key type p = law key (mac_input type p)

  -- by what the tests came to
  accepted : (key : List ℕ) (type : ℕ) (p : List ℕ) → packet_check key type p ≡ pass → sign_buffer mac key type p ≡ signed key type p
  unfolding sign_buffer signed
  accepted key type p h = rw h

  refused : (key : List ℕ) (type : ℕ) (p : List ℕ) {x : Reason} → packet_check key type p ≡ refuse x → sign_buffer mac key type p ≡ p
  unfolding sign_buffer
  refused key type p h = rw h

  module _ (key : List ℕ) (type : ℕ) (p : List ℕ) (passes : packet_check key type p ≡ pass) where
    at : Placed type p
    at = passed_placed key type p passes

    signed-agrees : AgreeOutside (mac_at type p) (signed key type p) p
    unfolding signed
    signed-agrees = with_agrees (mac_at type p) (mac_of mac key type p) p (mac-size key type p) at.room

    signed_passes : packet_check key type (signed key type p) ≡ pass
    signed_passes = sym (same_check type p (signed key type p) at (agree_sym signed-agrees) key) ∙ passes

    -- its place and its MAC are those of the packet
    signed-place : mac_at type (signed key type p) ≡ mac_at type p
    signed-place = sym (same_place type p (signed key type p) at (agree_sym signed-agrees))

    signed-mac : mac_of mac key type (signed key type p) ≡ mac_of mac key type p
    unfolding mac_of
    signed-mac = ap (mac key) (sym (same_input type p (signed key type p) at (agree_sym signed-agrees)))

    mac-there : mac_in (mac_at type (signed key type p)) (signed key type p) ≡ mac_of mac key type (signed key type p)
    unfolding signed
    mac-there = ap (λ (m : ℕ). mac_in m (signed key type p)) signed-place ∙ mac-found (mac_at type p) (mac_of mac key type p) p (mac-size key type p) at.room ∙ sym signed-mac

    signed-checks : check_check mac key type (signed key type p) ≡ pass
    unfolding check_check unless
    signed-checks = rw (signed_passes, mac-there, equal_same)

    signs_again : sign_buffer mac key type (signed key type p) ≡ signed key type p
    unfolding signed
    signs_again =
        accepted key type (signed key type p) signed_passes
        ∙ ap (λ (m : ℕ). with_mac m (mac_of mac key type (signed key type p)) (signed key type p)) signed-place
        ∙ ap (λ (d : List ℕ). with_mac (mac_at type p) d (signed key type p)) signed-mac
        ∙ sym (with_same (mac_at type p) (mac_of mac key type p) p (signed key type p) at.room (agree_sym signed-agrees))

  wrote-passed : (c : Check) → answer_to c 32 ≡ returned 32 → c ≡ pass
  wrote-passed pass e = refl
  wrote-passed (refuse x) e = cc

  pub signed_passes_lem : SignedPasses mac
  unfolding sign_answer
  signed_passes_lem key p type e =
      let h : packet_check key type p ≡ pass = wrote-passed (packet_check key type p) e in
      ap (check_check mac key type) (accepted key type p h) ∙ signed-checks key type p h

  pub others_stay_lem : OthersStay mac
  others_stay_lem key p type = go (packet_check key type p) refl
    where
      go : (c : Check) → packet_check key type p ≡ c → AgreeOutside (mac_at type p) (sign_buffer mac key type p) p
      go pass h = rw (accepted key type p h) (signed-agrees key type p h)
      go (refuse x) h = rw (refused key type p h) (agree_refl (mac_at type p) p)

  pub signs_again_lem : SignsAgain mac
  signs_again_lem key p type = go (packet_check key type p) refl
    where
      go : (c : Check) → packet_check key type p ≡ c → sign_buffer mac key type (sign_buffer mac key type p) ≡ sign_buffer mac key type p
      go pass h = rw (accepted key type p h) (signs_again key type p h)
      go (refuse x) h = ap (sign_buffer mac key type) (refused key type p h)

  -- where the checker's tests pass, the MAC in the packet is its own
  own-mac : (key : List ℕ) (type : ℕ) (p : List ℕ) → check_check mac key type p ≡ pass → signed key type p ≡ p
  unfolding check_check signed
  own-mac key type p h =
      let e : mac_in (mac_at type p) p ≡ mac_of mac key type p = same_equal _ _ (test_passed _ _ (last-passed _ _ h)) in
      rw (← e) (with_own (mac_at type p) p)

  all_pass : (key : List ℕ) (type : ℕ) (p : List ℕ) → check_check mac key type p ≡ pass → packet_check key type p ≡ pass
  unfolding check_check
  all_pass key type p h = before-passed _ _ h

  pub only_signed_lem : OnlySigned mac
  only_signed_lem key p type = (
    λ h. (all_pass key type p h, accepted key type p (all_pass key type p h) ∙ own-mac key type p h),
    λ h. ap (check_check mac key type) (sym (sym (accepted key type p h.0) ∙ h.1)) ∙ signed-checks key type p h.0,
  )
