-- What changed for each attribute of a bundle, found one after the other.
use Prim.Native.Nat.{ℕ, ◌+◌, ◌≤◌, ◌<◌}
use mathlib.Core.Path.{◌≡◌, refl, sym, ap, ◌∙◌}
use mathlib.Core.Bool.{Bool, true, false, cond}
use mathlib.Core.List.{List, [], ◌∷◌, ◌++◌, append-nil, append_assoc, map, map-append}
use native.Mathlib.Nat.{zero-add}
use native.Mathlib.Numerals.{add-one}
use native.Mathlib.Omega.{arith}
use borrow.Author.Tests.{eqb-true, ne_eqb}
use lib.Dec.{eqb}
use lib.ListN.{length, take, set, length-set}
use lib.Seq.{take-suc-set}
use Rattle.std.specs.Prelude.{Option}
use Rattle.bundle_rules.specs.Bundle.{key_id_in}
use Rattle.compare_rules.specs.Compare.{lookup, Entry, listed, first_entries, second_entries, count_kind}
use Rattle.bundle_compare.specs.declared.changes.Change.{Change}
use Rattle.bundle_compare.specs.declared.changes.Side.{Side}
use Rattle.bundle_compare.specs.declared.changes.Side.TheVariants.{First, Second}
use Rattle.bundle_compare.specs.declared.counts.Counts.{Counts}
use Rattle.bundle_compare.specs.Changes.{number_of, kind_by, entries_of, listed_by}

-- ---- counts of entries

pub count_append : (k : ℕ) (a b : List Entry) → count_kind k (a ++ b) ≡ count_kind k a + count_kind k b
unfolding count_kind
count_append k [] b = sym (zero-add (count_kind k b))
count_append k (e ∷ a) b =
    let h = count_append k a b in
    omega arith

-- an entry counts where its kind is the one; none is of kind 0
count-listed : (k kind : ℕ) (id : List ℕ) (more : List Entry) → (k ≡ 0 → ⊥) → count_kind k (listed kind id more) ≡ cond (eqb kind k) 1 0 + count_kind k more
unfolding listed count_kind
count-listed k kind id more n = go (eqb kind 0) refl
  where
    go : (t : Bool) → eqb kind 0 ≡ t → count_kind k (cond t more (record { kind = kind; id = id } ∷ more)) ≡ cond (eqb kind k) 1 0 + count_kind k more
    go true e =
        let z : kind ≡ 0 = eqb-true kind 0 e in
        let no : eqb kind k ≡ false = ne_eqb kind k (λ q. n (sym q ∙ z)) in
        rw no (sym (zero-add (count_kind k more)))
    go false e = refl

at_most_one : (b : Bool) → cond b 1 0 ≤ 1
at_most_one true = omega arith
at_most_one false = omega arith

-- ---- the entries of either bundle

entries-next : (side : Side) (other : List (List ℕ)) (b : List ℕ) (left : List (List ℕ))
    → entries_of side other (b ∷ left) ≡ listed (kind_by side b (lookup (key_id_in b) other)) (key_id_in b) (entries_of side other left)
unfolding first_entries second_entries
entries-next First other b left = refl
entries-next Second other b left = refl

entries-none : (side : Side) (other : List (List ℕ)) → entries_of side other [] ≡ []
unfolding first_entries second_entries
entries-none First other = refl
entries-none Second other = refl

unfoldable pub kinds_of : Side → List (List ℕ) → List (List ℕ) → List ℕ
kinds_of side other bodies = map (λ (b : List ℕ). kind_by side b (lookup (key_id_in b) other)) bodies

-- an array that begins with what changed for each gives their entries
all_listed : (side : Side) (other bodies : List (List ℕ)) (changes : List (Option Change)) → map number_of (take (length bodies) changes) ≡ kinds_of side other bodies
    → listed_by changes bodies ≡ entries_of side other bodies
unfolding listed_by kinds_of
all_listed side other [] [] e = sym (entries-none side other)
all_listed side other [] (x ∷ changes) e = sym (entries-none side other)
all_listed side other (b ∷ bodies) [] e = cc
all_listed side other (b ∷ bodies) (x ∷ changes) e =
    let head : number_of x ≡ kind_by side b (lookup (key_id_in b) other) = cc in
    let tail : map number_of (take (length bodies) changes) ≡ kinds_of side other bodies = cc in
    rw (entries-next side other b bodies, head, all_listed side other bodies changes tail)

-- the array once i attributes are done, and `left` are left
pub record Filled (side : Side) (other all : List (List ℕ)) (c₀ c : Counts) (changes : List (Option Change)) (left : List (List ℕ)) (i : ℕ) : Type 0 where
  pub size : length changes ≡ 64
  pub place : i + length left ≡ length all
  pub kinds : map number_of (take i changes) ++ kinds_of side other left ≡ kinds_of side other all
  pub one : c.only_first + count_kind 1 (entries_of side other left) ≡ c₀.only_first + count_kind 1 (entries_of side other all)
  pub two : c.changed + count_kind 2 (entries_of side other left) ≡ c₀.changed + count_kind 2 (entries_of side other all)
  pub three : c.only_second + count_kind 3 (entries_of side other left) ≡ c₀.only_second + count_kind 3 (entries_of side other all)
  pub few_one : c.only_first ≤ c₀.only_first + i
  pub few_two : c.changed ≤ c₀.changed + i
  pub few_three : c.only_second ≤ c₀.only_second + i

pub filled_start : (side : Side) (other all : List (List ℕ)) (c : Counts) {changes : List (Option Change)} → length changes ≡ 64 → Filled side other all c c changes all 0
filled_start side other all c h =
    record {
      size = h;
      place = zero-add (length all);
      kinds = refl;
      one = refl;
      two = refl;
      three = refl;
      few_one = omega arith;
      few_two = omega arith;
      few_three = omega arith;
    }

module _ {side : Side} {other all old left : List (List ℕ)} {b : List ℕ} {c₀ c : Counts} {changes : List (Option Change)} {i : ℕ} (e : old ≡ b ∷ left)
    (f : Filled side other all c₀ c changes old i) (h : length all ≤ 64) where
  pub filled_room : i < 64
  filled_room = omega (arith, f.place, ap length e)

  counted : (k : ℕ) (x : Option Change) → (k ≡ 0 → ⊥) → number_of x ≡ kind_by side b (lookup (key_id_in b) other)
      → count_kind k (entries_of side other old) ≡ cond (eqb (number_of x) k) 1 0 + count_kind k (entries_of side other left)
  counted k x n q = rw (e, q) (ap (count_kind k) (entries-next side other b left) ∙ count-listed k _ (key_id_in b) (entries_of side other left) n)

  pub filled_on : {c' : Counts} (x : Option Change) → number_of x ≡ kind_by side b (lookup (key_id_in b) other)
      → c'.only_first ≡ c.only_first + cond (eqb (number_of x) 1) 1 0
      → c'.changed ≡ c.changed + cond (eqb (number_of x) 2) 1 0
      → c'.only_second ≡ c.only_second + cond (eqb (number_of x) 3) 1 0
      → Filled side other all c₀ c' (set changes i x) left (i + 1)
  unfolding kinds_of
  filled_on x q p₁ p₂ p₃ =
      let here : i < length changes = omega (arith, filled_room, f.size) in
      let put : take (i + 1) (set changes i x) ≡ take i changes ++ (x ∷ []) = rw (add-one i) (take-suc-set changes i x here) in
      let m : map number_of (take (i + 1) (set changes i x)) ≡ map number_of (take i changes) ++ (number_of x ∷ []) = ap (map number_of) put ∙ map-append number_of (take i changes) (x ∷ []) in
      let k : map number_of (take i changes) ++ kinds_of side other (b ∷ left) ≡ kinds_of side other all = rw e at f.kinds in
      record {
        size = length-set changes i x ∙ f.size;
        place = omega (arith, f.place, ap length e);
        kinds = rw (m, q) (append_assoc (map number_of (take i changes)) _ (kinds_of side other left)) ∙ k;
        one = omega (arith, p₁, f.one, counted 1 x (λ z. omega (arith, z)) q);
        two = omega (arith, p₂, f.two, counted 2 x (λ z. omega (arith, z)) q);
        three = omega (arith, p₃, f.three, counted 3 x (λ z. omega (arith, z)) q);
        few_one = omega (arith, p₁, f.few_one, at_most_one (eqb (number_of x) 1));
        few_two = omega (arith, p₂, f.few_two, at_most_one (eqb (number_of x) 2));
        few_three = omega (arith, p₃, f.few_three, at_most_one (eqb (number_of x) 3));
      }

-- all of them
module _ {side : Side} {other all old : List (List ℕ)} {c₀ c : Counts} {changes : List (Option Change)} {i : ℕ} (e : old ≡ []) (f : Filled side other all c₀ c changes old i) where
  pub filled_all : listed_by changes all ≡ entries_of side other all
  unfolding kinds_of
  filled_all =
      let n : i ≡ length all = omega (arith, f.place, ap length e) in
      let k : map number_of (take i changes) ≡ kinds_of side other all = sym (append-nil (map number_of (take i changes))) ∙ rw e at f.kinds in
      all_listed side other all changes (rw n at k)

  none_left : (k : ℕ) → count_kind k (entries_of side other old) ≡ 0
  unfolding count_kind
  none_left k = rw e (ap (count_kind k) (entries-none side other))

  pub filled_counts : (c.only_first ≡ c₀.only_first + count_kind 1 (entries_of side other all)) × (c.changed ≡ c₀.changed + count_kind 2 (entries_of side other all))
      × (c.only_second ≡ c₀.only_second + count_kind 3 (entries_of side other all))
  filled_counts = (omega (arith, f.one, none_left 1), omega (arith, f.two, none_left 2), omega (arith, f.three, none_left 3))

  pub filled_few : length all ≤ 64 → (c.only_first ≤ c₀.only_first + 64) × (c.changed ≤ c₀.changed + 64) × (c.only_second ≤ c₀.only_second + 64)
  filled_few h = (omega (arith, f.few_one, f.place), omega (arith, f.few_two, f.place), omega (arith, f.few_three, f.place))
