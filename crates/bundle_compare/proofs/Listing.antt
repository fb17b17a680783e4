-- Entries written one after the other.
use Prim.Native.Nat.{ℕ, ◌+◌, ◌≤◌}
use mathlib.Core.Path.{◌≡◌, refl, sym, ap, ◌∙◌}
use mathlib.Core.List.{List, [], ◌∷◌, ◌++◌, append-nil, append_assoc}
use native.Mathlib.Omega.{arith}
use lib.ListN.{length, take, drop, length-append, length-drop, take-append-drop}
use lib.Seq.{length-take-le, take_at, drop_at, drop-drop}
use mathlib.Core.Logic.{◌⊎◌, inl, inr}
use Rattle.std.specs.Prelude.{Option, Some, None}
use Rattle.bundle_rules.specs.Bundle.{key_id_in}
use Rattle.compare_rules.specs.Compare.{Entry, listed, written}
use Rattle.bundle_compare.specs.declared.changes.Change.{Change}
use Rattle.bundle_compare.specs.declared.changes.Change.TheVariants.{OnlyFirst, Changed, OnlySecond}
use Rattle.bundle_compare.specs.Changes.{number_of, listed_by}

pub written_append : (a b : List Entry) → written (a ++ b) ≡ written a ++ written b
unfolding written
written_append [] b = refl
written_append (e ∷ a) b = ap (λ (l : List ℕ). (e.kind ∷ e.id) ++ l) (written_append a b) ∙ sym (append_assoc (e.kind ∷ e.id) (written a) (written b))

-- the bytes of an entry before others
one_written : (change : Change) (id : List ℕ) (more : List Entry) → written (listed (number_of (Some change)) id more) ≡ (number_of (Some change) ∷ id) ++ written more
unfolding written listed
one_written OnlyFirst id more = refl
one_written Changed id more = refl
one_written OnlySecond id more = refl

-- `all` are all the bytes, and `left` those that are still to be written
pub record Listed (all l₀ l left : List ℕ) (from at : ℕ) : Type 0 where
  pub sum : at + length left ≡ from + length all
  pub size : length l ≡ length l₀
  pub whole : take from l₀ ++ all ≡ take at l ++ left
  pub rest : drop at l ≡ drop at l₀

-- one more of them
module _ (part left : List ℕ) {all l₀ l old : List ℕ} {from at : ℕ} (o : old ≡ part ++ left) (s : Listed all l₀ l old from at) (h : from + length all ≤ length l₀) where
  pub part_room : at + length part ≤ length l
  part_room = omega (arith, s.sum, s.size, ap length o, length-append part left)

  pub part_on : {next m : ℕ} {l' : List ℕ} → next ≡ at + length part → m ≡ at + length part → l' ≡ take at l ++ (part ++ drop m l) → Listed all l₀ l' left from next
  part_on {l' = l'} q r e₀ =
      let e = rw r at e₀ in
      let n : ℕ = length part in
      let t : length (take at l) ≡ at = length-take-le at l (omega (arith, part_room)) in
      let tn : length (take at l ++ part) ≡ at + n = simp length-append (omega arith) in
      let e' : l' ≡ (take at l ++ part) ++ drop (at + n) l = e ∙ sym (append_assoc (take at l) part (drop (at + n) l)) in
      let done : take (at + n) l' ≡ take at l ++ part = ap (take (at + n)) e' ∙ take_at (take at l ++ part) (drop (at + n) l) (at + n) tn in
      let after : drop (at + n) l' ≡ drop (at + n) l = ap (drop (at + n)) e' ∙ drop_at (take at l ++ part) (drop (at + n) l) (at + n) tn in
      let same : drop (at + n) l ≡ drop (at + n) l₀ = sym (drop-drop n at l) ∙ ap (drop n) s.rest ∙ drop-drop n at l₀ in
      let fits = part_room in
      let dl = length-drop (at + n) l in
      let long : length (take at l ++ part) + length (drop (at + n) l) ≡ length l = omega arith in
      rw q
      record {
        sum = omega (arith, s.sum, ap length o, length-append part left);
        size = ap length e' ∙ length-append (take at l ++ part) (drop (at + n) l) ∙ long ∙ s.size;
        whole = s.whole ∙ rw o (sym (append_assoc (take at l) part left)) ∙ ap (λ (x : List ℕ). x ++ left) (sym done);
        rest = after ∙ same;
      }

pub listed_start : (all l : List ℕ) (from : ℕ) → Listed all l l all from from
listed_start all l from = record { sum = refl; size = refl; whole = refl; rest = refl }

pub listed_end : {all l₀ l left : List ℕ} {from at : ℕ} → left ≡ [] → Listed all l₀ l left from at
    → (at ≡ from + length all) × (l ≡ take from l₀ ++ (all ++ drop at l₀))
listed_end {all} {l₀} {l} {from = from} {at = at} e s =
    let n = ap length e in
    let w : take from l₀ ++ all ≡ take at l = s.whole ∙ rw e (append-nil (take at l)) in
    (omega (arith, s.sum), sym (take-append-drop at l) ∙ (λ i. sym w i ++ s.rest i) ∙ append_assoc (take from l₀) all (drop at l₀))

-- ---- the entries of attributes, by what changed for each

module _ {changes more : List (Option Change)} {bodies rest : List (List ℕ)} {change : Option Change} {b : List ℕ} (e : changes ≡ change ∷ more) (o : bodies ≡ b ∷ rest) where
  pub none-listed : change ≡ None → written (listed_by changes bodies) ≡ written (listed_by more rest)
  unfolding listed_by listed
  none-listed p = rw (e, o, p)

  pub one_listed : (c : Change) → change ≡ Some c → written (listed_by changes bodies) ≡ (number_of (Some c) ∷ key_id_in b) ++ written (listed_by more rest)
  unfolding listed_by
  one_listed c p = rw (e, o, p) (one_written c (key_id_in b) (listed_by more rest))

pub no_changes : {changes : List (Option Change)} (bodies : List (List ℕ)) → changes ≡ [] → written (listed_by changes bodies) ≡ []
unfolding listed_by written
no_changes bodies e = rw e

pub no_bodies : (changes : List (Option Change)) {bodies : List (List ℕ)} → bodies ≡ [] → written (listed_by changes bodies) ≡ []
unfolding listed_by written
no_bodies changes e = rw e (go changes)
  where
    go : (l : List (Option Change)) → written (listed_by l []) ≡ []
    go [] = refl
    go (x ∷ l) = refl

-- where either of them ends
pub left_none :
    (changes : List (Option Change)) (bodies : List (List ℕ)) {S T : Type 0} {P : S → Type 0} {Q : T → Type 0}
    → ((x : S) × ((length changes ≡ 0) × P x)) ⊎ ((y : T) × ((bodies ≡ []) × Q y))
    → written (listed_by changes bodies) ≡ []
left_none changes bodies (inl h) = no_changes bodies (empty changes h.1.0)
  where
    empty : (l : List (Option Change)) → length l ≡ 0 → l ≡ []
    empty [] e = refl
    empty (x ∷ l) e = absurd (omega arith)
left_none changes bodies (inr h) = no_bodies changes h.1.0
