-- Where 37 passes, the attribute lies whole within the packet; and a packet that agrees with it outside the MAC's 32 bytes has the same
-- attributes and passes the same tests.
use Prim.Native.Nat.{ℕ, suc, ◌+◌, ◌-◌, ◌*◌, ◌≤◌, ◌<◌}
use mathlib.Core.Path.{◌≡◌, refl, sym, ap, ◌∙◌}
use mathlib.Core.Logic.{inl, inr, ⊎_elim}
use mathlib.Core.Bool.{true, ◌&&◌}
use mathlib.Core.List.{List, [], ◌∷◌}
use native.Mathlib.Omega.{arith}
use borrow.Author.Tests.{eqb-true}
use lib.Dec.{eqb}
use lib.ListN.{length, get_or, drop, length-drop}
use lib.Seq.{get_or-drop}
use Rattle.refusal.specs.Checks.{pass, within}
use Rattle.refusal.proofs.Passing.{last-passed, test_passed}
use Rattle.slices.proofs.Truth.{and_left, and_right}
use Rattle.radius_attributes.specs.Attributes.{split}
use Rattle.radius_attributes.proofs.Splitting.{all_split}
use Rattle.packet_rules.specs.Packet.{length_holds, attributes, all_whole, places, mac_at, is_mac, one_mac}
use Rattle.packet_rules.specs.Mac.{packet_check}
use Rattle.packet_rules.specs.Statements.{AgreeOutside}
use Rattle.packet_rules.proofs.Walking.{Stands, stands, Alike, alike_whole, alike_places}
use Rattle.packet_rules.proofs.Outside.{But, but_by, within-one}

pub record Placed (type : ℕ) (p : List ℕ) : Type 0 where
  pub only : places type p ≡ mac_at type p ∷ []
  pub size : get_or p (suc (mac_at type p)) 0 ≡ 52
  pub low : 20 ≤ mac_at type p
  pub room : mac_at type p + 52 ≤ length p

one_of : (l : List ℕ) → length l ≡ 1 → l ≡ get_or l 0 0 ∷ []
one_of [] h = absurd (omega arith)
one_of (x ∷ []) h = refl
one_of (x ∷ (y ∷ l)) h = absurd (omega arith)

-- from the attribute's own bytes
size_at : (p : List ℕ) (m : ℕ) → is_mac (drop m p) ≡ true → get_or p (suc m) 0 ≡ 52
unfolding is_mac
size_at p m h =
    let e : suc m ≡ m + 1 = omega arith in
    rw e (sym (get_or-drop m p 1 0) ∙ eqb-true (get_or (drop m p) 1 0) 52 (and_left _ _ h))

-- seen from the first attribute on
past_header : (p : List ℕ) (m : ℕ) → 20 ≤ m → get_or p (suc m) 0 ≡ 52 → get_or (drop 20 p) (suc m - 20) 0 ≡ 52
past_header p m h e =
    let k : 20 + (suc m - 20) ≡ suc m = omega arith in
    get_or-drop 20 p (suc m - 20) 0 ∙ ap (λ (n : ℕ). get_or p n 0) k ∙ e

pub placed : (type : ℕ) (p : List ℕ) → one_mac type p ≡ true → Placed type p
unfolding one_mac places mac_at attributes
placed type p h =
    let only : places type p ≡ mac_at type p ∷ [] = one_of (places type p) (eqb-true _ 1 (and_left _ _ h)) in
    let size : get_or p (suc (mac_at type p)) 0 ≡ 52 = size_at p (mac_at type p) (and_right (eqb (length (places type p)) 1) _ h) in
    let s : Stands (drop 20 p) 20 (mac_at type p) = rw (all_split (drop 20 p)) at (stands type 20 (split (drop 20 p)) only) in
    let a : 20 ≤ mac_at type p = s.ahead in
    let b : get_or (drop 20 p) (suc (mac_at type p) - 20) 0 ≡ 52 = past_header p (mac_at type p) (omega arith) size in
    let i : mac_at type p + get_or (drop 20 p) (suc (mac_at type p) - 20) 0 ≤ 20 + length (drop 20 p) = s.inside in
    record { only = only; size = size; low = omega arith; room = omega (arith, length-drop 20 p) }

module _ (type : ℕ) (p q : List ℕ) (at : Placed type p) (agree : AgreeOutside (mac_at type p) p q) where
  rest-agree : But (mac_at type p) 32 (drop 20 p) (drop 20 q)
  rest-agree =
      let l : length p ≡ length q = agree.lengths in
      but_by (mac_at type p) 32 (drop 20 p) (drop 20 q)
      (simp length-drop (ap (λ (n : ℕ). n - 20) l))
      (simp length-drop (omega (arith, at.low, at.room)))
      (λ j o. simp get_or-drop (agree.bytes (20 + j) (⊎_elim (λ a. inl (omega arith)) (λ b. inr (omega arith)) o)))

  alike : Alike (attributes p) (attributes q)
  unfolding attributes split places
  alike = within-one type 0 20 20 (omega arith) rest-agree (omega arith) (omega arith) at.only (past_header p (mac_at type p) at.low at.size)

  same-places : places type p ≡ places type q
  unfolding places
  same-places = alike_places type 20 alike

  pub same_place : mac_at type p ≡ mac_at type q
  unfolding mac_at
  same_place = ap (λ (l : List ℕ). get_or l 0 0) same-places

  -- a byte before the MAC
  byte : (j : ℕ) → j < mac_at type p + 20 → get_or p j 0 ≡ get_or q j 0
  byte j h = agree.bytes j (inl h)

  same-35 : length_holds p ≡ length_holds q
  unfolding length_holds
  same-35 =
      let b₂ = byte 2 (omega (arith, at.low)) in
      let b₃ = byte 3 (omega (arith, at.low)) in
      let l = agree.lengths in
      λ i. within 20 4096 (l i) && eqb (b₂ i * 256 + b₃ i) (l i)

  same-36 : all_whole (attributes p) ≡ all_whole (attributes q)
  same-36 = alike_whole alike

  same-37 : one_mac type p ≡ one_mac type q
  unfolding one_mac is_mac
  same-37 =
      let b : (k : ℕ) → k < 20 → get_or (drop (mac_at type p) p) k 0 ≡ get_or (drop (mac_at type q) q) k 0
      = λ k h. get_or-drop (mac_at type p) p k 0 ∙ byte (mac_at type p + k) (omega arith) ∙ ap (λ (n : ℕ). get_or q (n + k) 0) same_place ∙ sym (get_or-drop (mac_at type q) q k 0) in
      let b₁ = b 1 (omega arith) in
      let b₂ = b 2 (omega arith) in
      let b₃ = b 3 (omega arith) in
      λ i. eqb (length (same-places i)) 1 && (eqb (b₁ i) 52 && (eqb (b₂ i) 0 && eqb (b₃ i) 2))

  pub same_check : (key : List ℕ) → packet_check key type p ≡ packet_check key type q
  unfolding packet_check
  same_check key = rw (same-35, same-36, same-37)

-- what passes 1 to 37 has the place
pub passed_placed : (key : List ℕ) (type : ℕ) (p : List ℕ) → packet_check key type p ≡ pass → Placed type p
unfolding packet_check
passed_placed key type p h = placed type p (test_passed _ _ (last-passed _ _ h))
