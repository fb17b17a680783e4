-- Laws of a packet with other bytes in place of its MAC: it agrees with the packet outside them, and that is all that counts.
use Prim.Native.Nat.{ℕ, ◌+◌, ◌-◌, ◌≤◌, ◌<◌}
use mathlib.Core.Path.{◌≡◌, sym, ap, ◌∙◌}
use mathlib.Core.Logic.{◌⊎◌, inl, inr}
use mathlib.Core.List.{List, ◌++◌}
use native.Mathlib.Omega.{arith}
use lib.ListN.{length, get_or, take, drop, length-append, length-drop, take-append-drop, get_or-append}
use lib.Seq.{length-take-le, get_or-append-add, get_or-take, get_or-drop, ext_get_or, take_at, drop_at, drop-drop}
use Rattle.packet_rules.specs.Mac.{with_mac, mac_in}
use Rattle.packet_rules.specs.Statements.{AgreeOutside}

pub agree_sym : {at : ℕ} {p q : List ℕ} → AgreeOutside at p q → AgreeOutside at q p
agree_sym a = record { lengths = sym a.lengths; bytes = λ j o. sym (a.bytes j o) }

pub agree_trans : {at : ℕ} {p q r : List ℕ} → AgreeOutside at p q → AgreeOutside at q r → AgreeOutside at p r
agree_trans a b = record { lengths = a.lengths ∙ b.lengths; bytes = λ j o. a.bytes j o ∙ b.bytes j o }

module _ (at : ℕ) (mac p : List ℕ) (size : length mac ≡ 32) (room : at + 52 ≤ length p) where
  front : length (take (at + 20) p) ≡ at + 20
  front = length-take-le (at + 20) p (omega arith)

  pub with_length : length (with_mac at mac p) ≡ length p
  unfolding with_mac
  with_length = simp (length-append, length-drop) (omega (arith, front))

  before : (j : ℕ) → j < at + 20 → get_or (with_mac at mac p) j 0 ≡ get_or p j 0
  unfolding with_mac
  before j h =
      let k : j < length (take (at + 20) p) = omega (arith, front) in
      get_or-append (take (at + 20) p) (mac ++ drop (at + 52) p) 0 j k ∙ get_or-take (at + 20) p j 0 h

  after : (j : ℕ) → at + 52 ≤ j → get_or (with_mac at mac p) j 0 ≡ get_or p j 0
  unfolding with_mac
  after j h =
      let e : j ≡ length (take (at + 20) p) + (length mac + (j - (at + 52))) = omega (arith, front) in
      let f : at + 52 + (j - (at + 52)) ≡ j = omega arith in
      ap (λ (k : ℕ). get_or (take (at + 20) p ++ (mac ++ drop (at + 52) p)) k 0) e
      ∙ get_or-append-add (take (at + 20) p) (mac ++ drop (at + 52) p) (length mac + (j - (at + 52))) 0
      ∙ get_or-append-add mac (drop (at + 52) p) (j - (at + 52)) 0
      ∙ get_or-drop (at + 52) p (j - (at + 52)) 0
      ∙ ap (λ (k : ℕ). get_or p k 0) f

  outside : (j : ℕ) → (j < at + 20) ⊎ (at + 52 ≤ j) → get_or (with_mac at mac p) j 0 ≡ get_or p j 0
  outside j (inl h) = before j h
  outside j (inr h) = after j h

  pub with_agrees : AgreeOutside at (with_mac at mac p) p
  with_agrees = record { lengths = with_length; bytes = outside }

  -- the MAC is found where it was put
  pub mac-found : mac_in at (with_mac at mac p) ≡ mac
  unfolding with_mac mac_in
  mac-found = ap (take 32) (drop_at (take (at + 20) p) (mac ++ drop (at + 52) p) (at + 20) front) ∙ take_at mac (drop (at + 52) p) 32 size

-- with the MAC's bytes replaced, packets that agree outside them are the same
pub with_same : (at : ℕ) (mac p q : List ℕ) → at + 52 ≤ length p → AgreeOutside at p q → with_mac at mac p ≡ with_mac at mac q
unfolding with_mac
with_same at mac p q room a =
    let l : length p ≡ length q = a.lengths in
    let lp : length (take (at + 20) p) ≡ at + 20 = length-take-le (at + 20) p (omega arith) in
    let lq : length (take (at + 20) q) ≡ at + 20 = length-take-le (at + 20) q (omega arith) in
    let front : take (at + 20) p ≡ take (at + 20) q = ext_get_or 0 _ _ (lp ∙ sym lq) (λ j h. let k : j < at + 20 = omega arith in get_or-take (at + 20) p j 0 k ∙ a.bytes j (inl k) ∙ sym (get_or-take (at + 20) q j 0 k)) in
    let back : drop (at + 52) p ≡ drop (at + 52) q = ext_get_or 0 _ _ (simp length-drop (ap (λ (n : ℕ). n - (at + 52)) l)) (λ j h. get_or-drop (at + 52) p j 0 ∙ a.bytes (at + 52 + j) (inr (omega arith)) ∙ sym (get_or-drop (at + 52) q j 0)) in
    λ i. front i ++ (mac ++ back i)

-- with its own MAC put in, a packet is as it was
pub with_own : (at : ℕ) (p : List ℕ) → with_mac at (mac_in at p) p ≡ p
unfolding with_mac mac_in
with_own at p =
    let e : at + 20 + 32 ≡ at + 52 = omega arith in
    let back : drop (at + 52) p ≡ drop 32 (drop (at + 20) p) = sym (drop-drop 32 (at + 20) p ∙ ap (λ (k : ℕ). drop k p) e) in
    ap (λ (s : List ℕ). take (at + 20) p ++ (take 32 (drop (at + 20) p) ++ s)) back
    ∙ ap (λ (s : List ℕ). take (at + 20) p ++ s) (take-append-drop 32 (drop (at + 20) p))
    ∙ take-append-drop (at + 20) p
