-- Laws of the walk: what a step leaves to be walked, and what is met at the end.
use Prim.Native.Nat.{ℕ, ◌+◌, ◌-◌, ◌≤◌, ◌<◌}
use mathlib.Core.Path.{◌≡◌, refl, sym, ap, ◌∙◌}
use mathlib.Core.Bool.{Bool, true, false, cond}
use mathlib.Core.List.{List, [], ◌∷◌, ◌++◌, append_assoc, append-nil}
use native.Mathlib.Omega.{arith}
use borrow.Author.Tests.{eq-eqb, ne_eqb}
use lib.ListN.{length, get_or, take, drop, length-drop}
use lib.Seq.{get_or-take, length-take-le}
use Rattle.std.specs.Prelude.{Option, Some, None, Ok, Err}
use Rattle.std.specs.Option.{ok_or}
use Rattle.slices.proofs.Lists.{rest_drop}
use Rattle.refusal.specs.declared.Refusal.{Refusal}
use Rattle.refusal.specs.declared.Refusal.TheVariants.{PacketAttributeBounds}
use Rattle.radius_attributes.specs.Attributes.{whole, whole_size, attribute_length, split}
use Rattle.radius_attributes.proofs.Lengths.{none_cut, some_whole, length_cut, whole_part}
use Rattle.radius_attributes.proofs.Splitting.{cut_alone}
use Rattle.radius_attributes.proofs.Walking.{Step, step_at_lem, none_left}
use Rattle.packet_rules.specs.Packet.{attributes, all_whole, of_type, places_from, places}
use Rattle.packet_mac.specs.Internal.{seen, seen_also, found_in, type_in, Told}
use Rattle.packet_mac.specs.declared.attributes.Seen.{Seen}
use Rattle.packet_mac.specs.declared.attributes.Seen.TheVariants.{Never}

-- what `ok_or` tells of the length
pub some_told : (o : Option ℕ) (why : Refusal) (n : ℕ) → ok_or o why ≡ Ok n → o ≡ Some n
some_told (Some m) why n e = cc
some_told None why n e = cc

pub none_told : (o : Option ℕ) (why x : Refusal) → ok_or o why ≡ Err x → (o ≡ None) × (why ≡ x)
none_told (Some m) why x e = cc
none_told None why x e = (refl, cc)

-- the packet walked up to an offset: the places met so far, and what is left to be walked
pub record WalkedTo (type : ℕ) (p : List ℕ) (at : ℕ) (met : Seen) : Type 0 where
  pub found : List ℕ
  pub all : places type p ≡ found ++ places_from type at (split (drop at p))
  pub told : seen found ≡ met
  pub intact : all_whole (attributes p) ≡ all_whole (split (drop at p))

pub walk_starts : (type : ℕ) (p : List ℕ) → WalkedTo type p 20 Never
unfolding places attributes
walk_starts type p = record { found = []; all = refl; told = refl; intact = refl }

-- what is told of an attribute
pub told_some : (p : List ℕ) (at size type next : ℕ) → at < length p → whole_size (take (length p - at) (drop at p)) ≡ Some size → type ≡ get_or (take (length p - at) (drop at p)) 0 0
    → next ≡ at + size → Told p at (Some type) next
unfolding type_in
told_some p at size type next h e t n =
    let w = some_whole (drop at p) size (sym (ap whole_size (rest_drop at p)) ∙ e) in
    let t' : type ≡ get_or (drop at p) 0 0 = t ∙ ap (λ (b : List ℕ). get_or b 0 0) (rest_drop at p) in
    record { inside = h; told = rw (w.whole, t'); past = n ∙ ap (λ (k : ℕ). at + k) w.length }

pub told_none : (p : List ℕ) (at next : ℕ) → at < length p → whole_size (take (length p - at) (drop at p)) ≡ None → next ≡ length p → Told p at None next
unfolding type_in
told_none p at next h e n =
    let d = length-drop at p in
    let c = none_cut (drop at p) (sym (ap whole_size (rest_drop at p)) ∙ e) in
    let l = length_cut (drop at p) c in
    record { inside = h; told = rw c; past = omega (arith, d, l, n, h) }

-- and goes on to the right, within the packet
pub told_step : (p : List ℕ) (at : ℕ) (type : Option ℕ) (next : ℕ) → Told p at type next → (at < next) × (next ≤ length p)
told_step p at type next t =
    let s = step_at_lem p at (attribute_length (drop at p)) t.inside refl in
    (omega (arith, t.past, s.some), omega (arith, t.past, s.inside))

-- a step past an attribute that is whole
record Onward (p : List ℕ) (at n kind : ℕ) : Type 0 where
  pub step : Step p at n
  pub size : length (take n (drop at p)) ≡ n
  pub type : get_or (take n (drop at p)) 0 0 ≡ kind
  pub intact : whole (take n (drop at p)) ≡ true

told_whole : (bytes : List ℕ) (type : ℕ) → Some type ≡ type_in bytes → (whole bytes ≡ true) × (get_or bytes 0 0 ≡ type)
unfolding type_in
told_whole bytes type e = go (whole bytes) refl e
  where
    go : (t : Bool) → whole bytes ≡ t → ◌≡◌ {A = Option ℕ} (Some type) (cond t (Some (get_or bytes 0 0)) None) → (whole bytes ≡ true) × (get_or bytes 0 0 ≡ type)
    go true h e = (h, cc)
    go false h e = cc

told_cut : (bytes : List ℕ) → ◌≡◌ {A = Option ℕ} None (type_in bytes) → whole bytes ≡ false
unfolding type_in
told_cut bytes e = go (whole bytes) refl e
  where
    go : (t : Bool) → whole bytes ≡ t → ◌≡◌ {A = Option ℕ} None (cond t (Some (get_or bytes 0 0)) None) → whole bytes ≡ false
    go true h e = cc
    go false h e = h

onward : (p : List ℕ) (at type next : ℕ) → Told p at (Some type) next → Onward p at (attribute_length (drop at p)) type
onward p at type next t =
    let w = told_whole (drop at p) type t.told in
    let s = step_at_lem p at (attribute_length (drop at p)) t.inside refl in
    let d = length-drop at p in
    record {
      step = s;
      size = length-take-le (attribute_length (drop at p)) (drop at p) (omega (arith, d, s.inside));
      type = get_or-take (attribute_length (drop at p)) (drop at p) 0 0 s.some ∙ w.1;
      intact = whole_part (drop at p) ∙ w.0;
    }

-- the places among attributes of which the first is whole, by its type
first_is : (type at n : ℕ) (a : List ℕ) (l : List (List ℕ)) → whole a ≡ true → get_or a 0 0 ≡ type → length a ≡ n → places_from type at (a ∷ l) ≡ at ∷ places_from type (at + n) l
unfolding places_from of_type
first_is type at n a l w t s = rw (w, eq-eqb (get_or a 0 0) type t, s)

first_is_not : (type at n : ℕ) (a : List ℕ) (l : List (List ℕ)) → whole a ≡ true → (get_or a 0 0 ≡ type → ⊥) → length a ≡ n → places_from type at (a ∷ l) ≡ places_from type (at + n) l
unfolding places_from of_type
first_is_not type at n a l w t s = rw (w, ne_eqb (get_or a 0 0) type t, s)

-- that it is whole leaves the question to the others
others_whole : (a : List ℕ) (l : List (List ℕ)) → whole a ≡ true → all_whole (a ∷ l) ≡ all_whole l
unfolding all_whole
others_whole a l w = rw w

-- one place more
still : (found : List ℕ) (at : ℕ) → seen (found ++ (at ∷ [])) ≡ seen_also (seen found) at
still [] at = refl
still (x ∷ []) at = refl
still (x ∷ (y ∷ found)) at = refl

module _ (type : ℕ) (p : List ℕ) (at : ℕ) (met : Seen) (w : WalkedTo type p at met) where
  module _ (n kind : ℕ) (o : Onward p at n kind) where
    later-whole : all_whole (attributes p) ≡ all_whole (split (drop (at + n) p))
    later-whole = w.intact ∙ ap all_whole o.step.next ∙ others_whole (take n (drop at p)) (split (drop (at + n) p)) o.intact

    finds : kind ≡ type → WalkedTo type p (at + n) (seen_also met at)
    finds e =
        let here = first_is type at n (take n (drop at p)) (split (drop (at + n) p)) o.intact (o.type ∙ e) o.size in
        record {
          found = w.found ++ (at ∷ []);
          all = w.all ∙ ap (λ (l : List (List ℕ)). w.found ++ places_from type at l) o.step.next ∙ ap (λ (l : List ℕ). w.found ++ l) here
              ∙ sym (append_assoc w.found (at ∷ []) (places_from type (at + n) (split (drop (at + n) p))));
          told = still w.found at ∙ ap (λ (m : Seen). seen_also m at) w.told;
          intact = later-whole;
        }

    passes : (kind ≡ type → ⊥) → WalkedTo type p (at + n) met
    passes e =
        let here = first_is_not type at n (take n (drop at p)) (split (drop (at + n) p)) o.intact (λ q. e (sym o.type ∙ q)) o.size in
        record {
          found = w.found;
          all = w.all ∙ ap (λ (l : List (List ℕ)). w.found ++ places_from type at l) o.step.next ∙ ap (λ (l : List ℕ). w.found ++ l) here;
          told = w.told;
          intact = later-whole;
        }

  module _ (kind next : ℕ) (t : Told p at (Some kind) next) where
    pub walk-finds : kind ≡ type → WalkedTo type p next (seen_also met at)
    walk-finds e = rw t.past (finds (attribute_length (drop at p)) kind (onward p at kind next t) e)

    pub walk-passes : (kind ≡ type → ⊥) → WalkedTo type p next met
    walk-passes e = rw t.past (passes (attribute_length (drop at p)) kind (onward p at kind next t) e)

  -- nothing is left
  pub walk_ends : length p ≤ at → Ok met ≡ found_in type p
  unfolding places_from all_whole found_in
  walk_ends h =
      let none = none_left p at h in
      let whole : all_whole (attributes p) ≡ true = w.intact ∙ ap all_whole none in
      let all : places type p ≡ w.found = w.all ∙ ap (λ (l : List (List ℕ)). w.found ++ places_from type at l) none ∙ append-nil w.found in
      rw (whole, all, w.told)

  -- what is left is cut
  pub walk_stops : (next : ℕ) → Told p at None next → Err PacketAttributeBounds ≡ found_in type p
  unfolding all_whole found_in
  walk_stops next t =
      let d = length-drop at p in
      let c = told_cut (drop at p) t.told in
      let i = t.inside in
      let cut : all_whole (attributes p) ≡ false = w.intact ∙ ap all_whole (cut_alone (drop at p) (omega arith) c) ∙ rw c in
      rw cut
