-- The other statements of specs/Statements.antt, by induction over the list of offers, and by what each test says where the tests pass.
use Prim.Native.Nat.{ℕ}
use mathlib.Core.Path.{◌≡◌, refl}
use mathlib.Core.Bool.{Bool, true, false, ◌||◌}
use mathlib.Core.List.{List, [], ◌∷◌}
use borrow.Author.Tests.{not-true}
use lib.Dec.{eqb}
use Rattle.refusal.specs.Checks.{pass, ◌and_then◌}
use Rattle.refusal.proofs.Passing.{before-passed, last-passed, test_passed, test_holds, both_pass}
use Rattle.slices.proofs.Truth.{or_left, or_true}
use Rattle.offer_rules.specs.Rfc5448.{stands, repeats, first_supported, is_first, check13, check14, choose_check}
use Rattle.offer_rules.specs.Answers.{first_round}
use Rattle.offer_rules.specs.Negotiation.{negotiated}
use Rattle.offer_rules.specs.Statements.{FirstIsFirst, SupportedAsSet, ReplyAfterFirst, UnalteredAccepted}
use Rattle.offer_rules.proofs.Positions.{first_here, first-within, none_before, not_first}
use Rattle.offer_rules.proofs.OffersKept.{agreed_in_room}

pub first_is_first : FirstIsFirst
first_is_first offers supported = (first_here offers supported, first-within offers supported, none_before offers supported)

same_position : (offers supported₁ supported₂ : List ℕ) → ((value : ℕ) → stands value supported₁ ≡ stands value supported₂) → first_supported offers supported₁ ≡ first_supported offers supported₂
unfolding first_supported
same_position [] supported₁ supported₂ same = refl
same_position (x ∷ offers) supported₁ supported₂ same = rw (same x, same_position offers supported₁ supported₂ same)

pub supported_as_set : SupportedAsSet
unfolding first_round choose_check
supported_as_set offers supported₁ supported₂ same = rw (same_position offers supported₁ supported₂ same)

or_other : (a b : Bool) → a ≡ false → (a || b) ≡ true → b ≡ true
or_other true b e h = cc
or_other false b e h = h

pub reply_after-first : ReplyAfterFirst
unfolding repeats stands is_first
reply_after-first first others reply once = (forth, back)
  where
    forth : (check13 (first ∷ others) reply and_then check14 (first ∷ others) reply) ≡ pass → stands reply others ≡ true
    forth p =
        let other = test_passed _ _ (before-passed (check13 (first ∷ others) reply) (check14 (first ∷ others) reply) p) in
        let stands_in = test_passed _ _ (last-passed (check13 (first ∷ others) reply) (check14 (first ∷ others) reply) p) in
        or_other (eqb first reply) _ (not-true _ other) stands_in

    back : stands reply others ≡ true → (check13 (first ∷ others) reply and_then check14 (first ∷ others) reply) ≡ pass
    back h =
        let other = not_first (λ v. stands v others) reply (first ∷ others) h (or_left _ _ once) in
        both_pass _ _ (test_holds _ _ (rw other)) (test_holds _ _ (or_true (eqb first reply) _ h))

pub unaltered_accepted : UnalteredAccepted
unfolding negotiated
unaltered_accepted offers supported value position buffer e room =
    let agreed = agreed_in_room offers supported buffer value position e room in
    rw (e, agreed.0, agreed.1)
