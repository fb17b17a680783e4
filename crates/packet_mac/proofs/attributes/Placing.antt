-- What the walk says of the tests 36 and 37, and of the place of the MAC's attribute.
use Prim.Native.Nat.{ℕ, ◌+◌, ◌-◌, ◌≤◌}
use mathlib.Core.Path.{◌≡◌, refl, sym, ap, ◌∙◌}
use mathlib.Core.Bool.{Bool, true, false, cond, ◌&&◌}
use mathlib.Core.List.{List, [], ◌∷◌}
use native.Mathlib.Omega.{arith}
use borrow.Author.Tests.{ne_eqb}
use lib.Dec.{eqb}
use lib.ListN.{length, get_or, drop, take, length-drop}
use Rattle.std.specs.Prelude.{Ok, Err}
use Rattle.slices.proofs.Lists.{rest_drop}
use Rattle.refusal.proofs.Passing.{test_holds, test_passed, last-passed, second_decides}
use Rattle.refusal.specs.Checks.{Check, pass, bare, ◌and_then◌, unless}
use Rattle.refusal.specs.Answers.{returned, refused, reason_of, answer_to}
use Rattle.refusal.specs.declared.Refusal.{Refusal}
use Rattle.refusal.specs.declared.Refusal.TheVariants.{PacketAttributeBounds}
use Rattle.radius_attributes.specs.Attributes.{split}
use Rattle.radius_attributes.proofs.Splitting.{all_split}
use Rattle.packet_rules.specs.Packet.{attributes, all_whole, places_from, places, mac_at, is_mac, one_mac, check36, check37}
use Rattle.packet_rules.proofs.Walking.{Stands, stands}
use Rattle.packet_rules.proofs.Placing.{placed}
use Rattle.packet_mac.specs.Internal.{seen, only_of, found_in}
use Rattle.packet_mac.specs.declared.attributes.Seen.{Seen}

-- the first of any list of places lies within the packet
at_within : (type : ℕ) (p : List ℕ) → mac_at type p ≤ length p
unfolding mac_at places attributes
at_within type p = go (places_from type 20 (split (drop 20 p))) refl
  where
    go : (l : List ℕ) → places_from type 20 (split (drop 20 p)) ≡ l → get_or l 0 0 ≤ length p
    go [] e = omega arith
    go (m ∷ later) e =
        let s : Stands (drop 20 p) 20 m = rw (all_split (drop 20 p)) at (stands type 20 (split (drop 20 p)) e) in
        omega (arith, s.ahead, s.long, s.inside, length-drop 20 p)

-- what the tests of the walk come to, by what it finds
abbrev tests : ℕ → List ℕ → Check
tests type p = check36 p and_then check37 type p

-- an attribute is cut
pub cut : (type : ℕ) (p : List ℕ) (x : Refusal) → found_in type p ≡ Err x → refused (reason_of x) ≡ answer_to (tests type p) (mac_at type p)
unfolding found_in unless
cut type p x e = go (all_whole (attributes p)) refl e
  where
    go : (t : Bool) → all_whole (attributes p) ≡ t → cond t (Ok (seen (places type p))) (Err PacketAttributeBounds) ≡ Err x
        → refused (reason_of x) ≡ answer_to (tests type p) (mac_at type p)
    go true w e = cc
    go false w e = let y : x ≡ PacketAttributeBounds = cc in rw (w, y)

-- all are whole
whole_found : (type : ℕ) (p : List ℕ) (s : Seen) → found_in type p ≡ Ok s → (all_whole (attributes p) ≡ true) × (seen (places type p) ≡ s)
unfolding found_in
whole_found type p s e = go (all_whole (attributes p)) refl e
  where
    go : (t : Bool) → all_whole (attributes p) ≡ t → cond t (Ok (seen (places type p))) (Err PacketAttributeBounds) ≡ Ok s
        → (all_whole (attributes p) ≡ true) × (seen (places type p) ≡ s)
    go true w e = (w, cc)
    go false w e = cc

-- the only place of a list is its first
only_first : (l : List ℕ) (at : ℕ) → only_of (seen l) ≡ Ok at → l ≡ at ∷ []
only_first [] at e = cc
only_first (m ∷ []) at e = cc
only_first (m ∷ (n ∷ l)) at e = cc

-- none, or more than one
not_one : (l : List ℕ) (x : Refusal) (b : Bool) → only_of (seen l) ≡ Err x → ((eqb (length l) 1 && b) ≡ false) × (reason_of x ≡ bare 37)
not_one [] x b e = (refl, cc)
not_one (m ∷ []) x b e = cc
not_one (m ∷ (n ∷ l)) x b e =
    let more : eqb (length (m ∷ (n ∷ l))) 1 ≡ false = ne_eqb (length (m ∷ (n ∷ l))) 1 (λ z. omega arith) in
    (rw more, cc)

pub not_only : (type : ℕ) (p : List ℕ) (s : Seen) (x : Refusal) → found_in type p ≡ Ok s → only_of s ≡ Err x
    → refused (reason_of x) ≡ answer_to (tests type p) (mac_at type p)
unfolding one_mac unless
not_only type p s x e f =
    let w = whole_found type p s e in
    let n = not_one (places type p) x (is_mac (drop (mac_at type p) p)) (ap only_of w.1 ∙ f) in
    rw (w.0, n.0, n.1)

-- there is one
module _ (type : ℕ) (p : List ℕ) (s : Seen) (at : ℕ) (e : found_in type p ≡ Ok s) (f : only_of s ≡ Ok at) where
  only : places type p ≡ at ∷ []
  only = only_first (places type p) at (ap only_of (whole_found type p s e).1 ∙ f)

  there : mac_at type p ≡ at
  unfolding mac_at
  there = ap (λ (l : List ℕ). get_or l 0 0) only

  pub within : at ≤ length p
  within = omega (arith, there, at_within type p)

  one : is_mac (take (length p - at) (drop at p)) ≡ one_mac type p
  unfolding one_mac
  one = rw (only, there, rest_drop at p)

  -- and the test whether it is a MAC's decides
  pub decides : (b : Bool) {c : Check} → c ≡ unless b (bare 37) → b ≡ is_mac (take (length p - at) (drop at p)) → c ≡ tests type p
  decides b q r =
      let w = test_holds (all_whole (attributes p)) (bare 36) (whole_found type p s e).0 in
      q ∙ ap (λ (t : Bool). unless t (bare 37)) (r ∙ one) ∙ second_decides _ _ w

  pub accepted : pass ≡ tests type p → (returned at ≡ answer_to (tests type p) (mac_at type p)) × (at + 52 ≤ length p)
  accepted h =
      let o : one_mac type p ≡ true = test_passed (one_mac type p) (bare 37) (last-passed (check36 p) _ (sym h)) in
      let room : mac_at type p + 52 ≤ length p = (placed type p o).room in
      (rw (← h, there), omega (arith, there, room))
