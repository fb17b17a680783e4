-- Document 02, request 14: what a peer that accepts a renewed list may rely on, and that it accepts where nothing was altered.
use Prim.Native.Nat.{ℕ, ◌+◌, ◌≤◌}
use mathlib.Core.Path.{◌≡◌, sym, ◌∙◌}
use mathlib.Core.Bool.{true, false}
use mathlib.Core.List.{List, ◌∷◌}
use native.Mathlib.Numerals.{add-one}
use native.Mathlib.Omega.{arith}
use borrow.Author.Tests.{le-leb, ltb-true}
use lib.ListN.{length, get_or, take, drop}
use lib.Seq.{take_at}
use Rattle.refusal.specs.Checks.{pass, ◌and_then◌}
use Rattle.refusal.specs.Answers.{returned}
use Rattle.refusal.proofs.Passing.{within-high, before-passed, last-passed, test_passed, test_holds, both_pass}
use Rattle.slices.proofs.Same.{same_equal, equal_same}
use Rattle.offer_rules.specs.Rfc5448.{stands, first_supported, is_first, renewed_list, check10, check11, check13, check14, choose_check, answer_check, renewed_check}
use Rattle.offer_rules.specs.Answers.{ask, first_round, server_answer, server_buffer, accepted, renewed_answer}
use Rattle.offer_rules.specs.Statements.{FirstOffer, OffersKept, OffersAgreed}
use Rattle.offer_rules.proofs.Positions.{first_here, none_before, not_first, stands_at}
use Rattle.offer_rules.proofs.Accepted.{asked_at, answer_passed, renewed_passed}

-- what a first round that ended in an Ask says of its list and its value: 10 and 11 pass, and the value is the first supported offer and not the first offer
record Asked (offers supported : List ℕ) (value : ℕ) : Type 0 where
  listed : (check10 offers and_then check11 offers) ≡ pass
  first : FirstOffer offers supported value
  later : is_first value offers ≡ false
  offered : stands value offers ≡ true

asked : (offers supported : List ℕ) (value position : ℕ) → first_round offers supported ≡ ask value position → Asked offers supported value
unfolding first_round choose_check
asked offers supported value position e =
    let i = first_supported offers supported in
    let at = asked_at _ _ _ e in
    let passed : choose_check offers supported ≡ pass = at.0 in
    let here : value ≡ get_or offers i 0 = at.2 in
    let inside = ltb-true i (length offers) (test_passed _ _ (last-passed _ _ passed)) in
    let held : stands value supported ≡ true = rw here (first_here offers supported inside) in
    record {
      listed = before-passed _ _ passed;
      first = (i, inside, here, held, none_before offers supported);
      later = not_first (λ v. stands v supported) value offers held (none_before offers supported 0 at.1);
      offered = rw here (stands_at offers i inside);
    }

-- what the server wrote is the renewed list
wrote_renewed : (offers buffer : List ℕ) (reply count : ℕ) → server_answer offers reply buffer ≡ returned count → take count (server_buffer offers reply buffer) ≡ renewed_list offers reply
unfolding server_answer server_buffer
wrote_renewed offers buffer reply count e =
    let served = answer_passed (answer_check offers reply (length buffer)) (length offers + 1) e in
    rw (served.0, served.1) (take_at (renewed_list offers reply) (drop (length offers + 1) buffer) (length offers + 1) (sym (add-one (length offers))))

-- a peer accepts what is its choice followed by the list that it saw, and nothing else
accepted_same : (seen renewed : List ℕ) (choice held : ℕ) → renewed_answer seen choice renewed ≡ accepted held → (renewed ≡ choice ∷ seen) × (held ≡ choice)
unfolding renewed_answer renewed_check
accepted_same seen renewed choice held e =
    let passed = renewed_passed _ choice e in
    (same_equal _ _ (test_passed _ _ (last-passed _ _ passed.0)), passed.1)

pub offers_kept : OffersKept
offers_kept seen offers supported buffer choice position reply count held e₁ e₂ e₃ =
    let sent = wrote_renewed offers buffer reply count e₂ in
    let got = accepted_same seen _ choice held e₃ in
    let whole : reply ∷ offers ≡ choice ∷ seen = sym sent ∙ got.0 in
    let list : seen ≡ offers = cc in
    let own : reply ≡ choice = cc in
    let both : held ≡ reply = cc in
    (list, own, both, rw (← list, both, own) (asked seen supported choice position e₁).first)

-- with nothing altered, a server whose buffer has room accepts, and the peer does
pub agreed_in_room : (offers supported buffer : List ℕ) (choice position : ℕ) → first_round offers supported ≡ ask choice position → length offers + 1 ≤ length buffer
    → (server_answer offers choice buffer ≡ returned (length offers + 1))
    × (renewed_answer offers choice (take (length offers + 1) (server_buffer offers choice buffer)) ≡ accepted choice)
unfolding server_answer renewed_answer answer_check renewed_check
agreed_in_room offers supported buffer choice position e room =
    let a = asked offers supported choice position e in
    let replied : (check10 offers and_then check11 offers and_then check13 offers choice and_then check14 offers choice) ≡ pass =
    both_pass _ _ (both_pass _ _ a.listed (test_holds _ _ (rw a.later))) (test_holds _ _ a.offered) in
    let served : answer_check offers choice (length buffer) ≡ pass = both_pass _ _ replied (test_holds _ _ (le-leb _ _ room)) in
    let renewed : renewed_check offers choice (renewed_list offers choice) ≡ pass = both_pass _ _ replied (test_holds _ _ (equal_same (renewed_list offers choice))) in
    (rw served, rw (wrote_renewed offers buffer choice (length offers + 1) (rw served), renewed))

pub offers_agreed : OffersAgreed
offers_agreed offers supported buffer choice position e room =
    let few = within-high _ _ (length offers) (test_passed _ _ (before-passed _ _ (asked offers supported choice position e).listed)) in
    let agreed = agreed_in_room offers supported buffer choice position e (omega arith) in
    (length offers + 1, agreed.0, agreed.1)
