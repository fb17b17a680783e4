-- Two byte strings that agree but for n bytes from the d-th on; and where those lie within an attribute, they have the same attributes.
use Prim.Native.Nat.{ℕ, zero, suc, ◌+◌, ◌-◌, ◌≤◌, ◌<◌}
use mathlib.Core.Path.{◌≡◌, refl, sym, ap, ◌∙◌}
use mathlib.Core.Logic.{◌⊎◌, inl, inr, ⊎_elim}
use mathlib.Core.Bool.{Bool, true, false, cond, ◌&&◌}
use mathlib.Core.List.{List, [], ◌∷◌}
use native.Mathlib.Omega.{arith}
use lib.Dec.{leb}
use lib.ListN.{length, get_or, take, drop}
use lib.Seq.{ext_get_or, get_or-take}
use Rattle.radius_attributes.specs.Attributes.{whole, attribute_length, split_from, split}
use Rattle.radius_attributes.proofs.Lengths.{length_byte, length_some, part_length, whole_part}
use Rattle.radius_attributes.proofs.Splitting.{passed}
use Rattle.packet_rules.specs.Packet.{of_type, places_from}
use Rattle.packet_rules.proofs.Walking.{of_whole, stands, Alike, both, alike_refl}

pub data But : ℕ → ℕ → List ℕ → List ℕ → Type 0 where
  same : {s : List ℕ} → But zero zero s s
  differs : {n x y : ℕ} {s t : List ℕ} → But zero n s t → But zero (suc n) (x ∷ s) (y ∷ t)
  equals : {d n x : ℕ} {s t : List ℕ} → But d n s t → But (suc d) n (x ∷ s) (x ∷ t)

-- from the bytes one by one
pub but_by : (d n : ℕ) (s t : List ℕ) → length s ≡ length t → d + n ≤ length s → ((j : ℕ) → (j < d) ⊎ (d + n ≤ j) → get_or s j 0 ≡ get_or t j 0) → But d n s t
but_by zero zero s t l h f =
    let e : s ≡ t = ext_get_or 0 s t l (λ j k. f j (inr (omega arith))) in
    rw e same
but_by zero (suc n) [] t l h f = absurd (omega arith)
but_by zero (suc n) (x ∷ s) [] l h f = absurd (omega arith)
but_by zero (suc n) (x ∷ s) (y ∷ t) l h f = differs (but_by zero n s t (omega arith) (omega arith) (λ j k. f (suc j) (⊎_elim (λ a. inl (omega arith)) (λ b. inr (omega arith)) k)))
but_by (suc d) n [] t l h f = absurd (omega arith)
but_by (suc d) n (x ∷ s) [] l h f = absurd (omega arith)
but_by (suc d) n (x ∷ s) (y ∷ t) l h f =
    let e : x ≡ y = f 0 (inl (omega arith)) in
    rw e (equals (but_by d n s t (omega arith) (omega arith) (λ j k. f (suc j) (⊎_elim (λ a. inl (omega arith)) (λ b. inr (omega arith)) k))))

but_length : {d n : ℕ} {s t : List ℕ} → But d n s t → length s ≡ length t
but_length same = refl
but_length (differs b) = ap suc (but_length b)
but_length (equals b) = ap suc (but_length b)

-- past all of them
but_drop : (left : ℕ) {d n : ℕ} {s t : List ℕ} → d + n ≤ left → But d n s t → drop left s ≡ drop left t
but_drop left h same = refl
but_drop zero h (differs b) = absurd (omega arith)
but_drop (suc left) h (differs b) = but_drop left (omega arith) b
but_drop zero h (equals b) = absurd (omega arith)
but_drop (suc left) h (equals b) = but_drop left (omega arith) b

first : {d n : ℕ} {s t : List ℕ} → 1 ≤ d → But d n s t → get_or s 0 0 ≡ get_or t 0 0
first h same = refl
first h (differs b) = let z : ◌≡◌ {A = ℕ} 0 1 = omega arith in cc
first h (equals b) = refl

-- where an attribute begins in both, with one type and one length byte
module _ (x : ℕ) (s t : List ℕ) (e : get_or s 0 0 ≡ get_or t 0 0) (l : length s ≡ length t) where
  same_whole : whole (x ∷ s) ≡ whole (x ∷ t)
  unfolding whole
  same_whole = λ i. leb 2 (e i) && leb (e i) (suc (l i))

  same_length : attribute_length (x ∷ s) ≡ attribute_length (x ∷ t)
  unfolding attribute_length
  same_length = λ i. cond (same_whole i) (e i) (suc (l i))

  begins : (n : ℕ) → n ≡ attribute_length (x ∷ t) → Alike (split_from (attribute_length (x ∷ s) - 1) s) (split_from (n - 1) t) → Alike (split_from 0 (x ∷ s)) (split_from 0 (x ∷ t))
  unfolding split_from
  begins n q r =
      let type : (r : List ℕ) → get_or (take (attribute_length (x ∷ r)) (x ∷ r)) 0 0 ≡ x
      = λ r. get_or-take (attribute_length (x ∷ r)) (x ∷ r) 0 0 (length_some (x ∷ r) (omega arith)) in
      both
      (whole_part (x ∷ s) ∙ same_whole ∙ sym (whole_part (x ∷ t)))
      (type s ∙ sym (type t))
      (part_length (x ∷ s) ∙ same_length ∙ sym (part_length (x ∷ t)))
      (rw q at r)

-- where the k bytes stand from the 20th of an attribute that is 52 long and the first of its type; `next` is the offset of the next attribute
pub within-one : (type left at next : ℕ) {m d k : ℕ} {later s t : List ℕ} → k ≤ 32 → But d k s t → next ≡ at + left → at + d ≡ m + 20
    → places_from type next (split_from left s) ≡ m ∷ later → get_or s (suc m - at) 0 ≡ 52 → Alike (split_from left s) (split_from left t)
unfolding split_from places_from
within-one type left at next l (same {s = s}) o q e b = alike_refl (split_from left s)
within-one type left at next {m} l (differs {x = x} {s = s} r) o q e b =
    let a : next ≤ m = (stands type next (split_from left (x ∷ s)) e).ahead in
    absurd (omega arith)
within-one type (suc left) at next {m} l (equals {d = d} {x = x} {s = s} r) o q e b =
    let a : next ≤ m = (stands type next (split_from left s) e).ahead in
    let i : suc m - at ≡ suc (suc m - suc at) = omega arith in
    within-one type left (suc at) next l r (omega arith) (omega arith) e (rw i at b)
within-one type zero at next {m} {d} {k} {later = later} l (equals {d = d₁} {x = x} {s = s} {t = t} r) o q e b =
    go (of_type type (take n (x ∷ s))) refl (λ f g h. within-one type (n - 1) (suc at) (next + length (take n (x ∷ s))) l r f (omega arith) g h) e
  where
    n : ℕ
    n = attribute_length (x ∷ s)

    some : 1 ≤ n
    some = length_some (x ∷ s) (omega arith)

    long : length (take n (x ∷ s)) ≡ n
    long = part_length (x ∷ s)

    starts : 1 ≤ d₁ → Alike (split_from (n - 1) s) (split_from (n - 1) t) → Alike (split_from 0 (x ∷ s)) (split_from 0 (x ∷ t))
    starts h a = begins x s t (first h r) (but_length r) n (same_length x s t (first h r) (but_length r)) a

    go : (w : Bool) → of_type type (take n (x ∷ s)) ≡ w
        → (next + length (take n (x ∷ s)) ≡ suc at + (n - 1) → places_from type (next + length (take n (x ∷ s))) (split_from (n - 1) s) ≡ m ∷ later
        → get_or s (suc m - suc at) 0 ≡ 52 → Alike (split_from (n - 1) s) (split_from (n - 1) t))
        → cond w (next ∷ places_from type (next + length (take n (x ∷ s))) (split_from (n - 1) s)) (places_from type (next + length (take n (x ∷ s))) (split_from (n - 1) s)) ≡ m ∷ later
        → Alike (split_from 0 (x ∷ s)) (split_from 0 (x ∷ t))
    go true h ih e =
        let w : next ≡ m = cc in
        let i : suc m - at ≡ 1 = omega arith in
        let c : get_or s 0 0 ≡ 52 = rw i at b in
        let z : n ≡ get_or s 0 0 = length_byte (x ∷ s) (sym (whole_part (x ∷ s)) ∙ of_whole type (take n (x ∷ s)) h) in
        let rest : split_from (n - 1) s ≡ split_from (n - 1) t = passed (n - 1) s ∙ ap split (but_drop (n - 1) (omega arith) r) ∙ sym (passed (n - 1) t) in
        starts (omega arith) (rw rest (alike_refl (split_from (n - 1) t)))
    go false h ih e =
        let a : next + length (take n (x ∷ s)) ≤ m = (stands type (next + length (take n (x ∷ s))) (split_from (n - 1) s) e).ahead in
        let lo : 1 ≤ n = some in
        let lg : length (take n (x ∷ s)) ≡ n = long in
        let i : suc m - at ≡ suc (suc m - suc at) = omega arith in
        starts (omega arith) (ih (omega arith) e (rw i at b))
