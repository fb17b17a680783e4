-- What the comparison answers and leaves, where what changed for the attributes of both bundles stands in two lists.
use Prim.Native.Nat.{ℕ, ◌+◌, ◌*◌}
use mathlib.Core.Path.{◌≡◌, refl, sym, ap, ◌∙◌}
use mathlib.Core.Bool.{Bool, true, false}
use mathlib.Core.List.{List, ◌++◌}
use native.Mathlib.Omega.{arith}
use lib.Dec.{leb}
use lib.ListN.{length, take, drop, length-append}
use Rattle.std.specs.Prelude.{Option}
use Rattle.refusal.specs.Checks.{Reason, pass, refuse, bare, unless}
use Rattle.refusal.specs.Answers.{returned, refused}
use Rattle.refusal.proofs.Passing.{both_pass, second_decides}
use Rattle.key_frame.proofs.Parts.{next_part}
use Rattle.bundle_rules.specs.Bundle.{bodies_of, bundle_check}
use Rattle.compare_rules.specs.Compare.{entries, first_entries, second_entries, written, count_kind, entries_in, entries_length, compare_check, compare_answer, compare_buffer, Tally, compare_counts}
use Rattle.compare_rules.specs.Statements.{total}
use Rattle.compare_rules.proofs.Counting.{fit_entries, all_counted, written-size}
use Rattle.bundle_compare.specs.declared.changes.Change.{Change}
use Rattle.bundle_compare.specs.declared.changes.Side.TheVariants.{First, Second}
use Rattle.bundle_compare.specs.declared.counts.Counts.{Counts}
use Rattle.bundle_compare.specs.Answers.{tally_of}
use Rattle.bundle_compare.specs.Changes.{entries_of, listed_by}
use Rattle.bundle_compare.proofs.Listing.{written_append}
use Rattle.bundle_compare.proofs.Filling.{count_append}

-- a test that refuses does not hold, and its refusal is its own
pub stopped : (t : Bool) (x : Reason) {y : Reason} → refuse y ≡ unless t x → (t ≡ false) × (y ≡ x)
unfolding unless
stopped true x e = (cc, cc)
stopped false x e = (refl, cc)

-- the counts of the entries of two lists
abbrev pub Counts_of : Counts → Counts → List (List ℕ) → List (List ℕ) → Type 0
Counts_of c₁ c₂ a b =
    (c₁.only_first ≡ 0 + count_kind 1 (entries_of First b a)) × (c₁.changed ≡ 0 + count_kind 2 (entries_of First b a)) × (c₁.only_second ≡ 0 + count_kind 3 (entries_of First b a))
    × (c₂.only_first ≡ c₁.only_first + count_kind 1 (entries_of Second a b)) × (c₂.changed ≡ c₁.changed + count_kind 2 (entries_of Second a b))
    × (c₂.only_second ≡ c₁.only_second + count_kind 3 (entries_of Second a b))

-- both files pass, two lists say what changed for their attributes, and c has the counts
pub record Told (f s : List ℕ) (ones others : List (Option Change)) (a b : List (List ℕ)) (c : Counts) : Type 0 where
  pub first_passes : bundle_check f ≡ pass
  pub second_passes : bundle_check s ≡ pass
  pub joined : listed_by ones a ++ listed_by others b ≡ entries_in f s
  pub one : c.only_first ≡ count_kind 1 (entries_in f s)
  pub two : c.changed ≡ count_kind 2 (entries_in f s)
  pub three : c.only_second ≡ count_kind 3 (entries_in f s)

pub told_by : (f s : List ℕ) {ones others : List (Option Change)} {a b : List (List ℕ)} (c₁ c₂ : Counts) → bundle_check f ≡ pass → bundle_check s ≡ pass
    → a ≡ bodies_of f → b ≡ bodies_of s → listed_by ones a ≡ entries_of First b a → listed_by others b ≡ entries_of Second a b → Counts_of c₁ c₂ a b → Told f s ones others a b c₂
unfolding entries_in entries
told_by f s {a = a} {b = b} c₁ c₂ p q x y l₁ l₂ n =
    let both : first_entries b a ++ second_entries a b ≡ first_entries (bodies_of s) (bodies_of f) ++ second_entries (bodies_of f) (bodies_of s) = rw (x, y) refl in
    let sum : (k : ℕ) → count_kind k (first_entries b a) + count_kind k (second_entries a b) ≡ count_kind k (first_entries (bodies_of s) (bodies_of f) ++ second_entries (bodies_of f) (bodies_of s))
    = λ k. sym (count_append k (first_entries b a) (second_entries a b)) ∙ ap (count_kind k) both in
    record {
      first_passes = p;
      second_passes = q;
      joined = (λ i. l₁ i ++ l₂ i) ∙ both;
      one = omega (arith, n.0, n.3, sum 1);
      two = omega (arith, n.1, n.4, sum 2);
      three = omega (arith, n.2, n.5, sum 3);
    }

module _ {f s : List ℕ} {ones others : List (Option Change)} {a b : List (List ℕ)} {c : Counts} (t : Told f s ones others a b c) where
  tally : ◌≡◌ {A = Tally} (tally_of c) (record { only_first = count_kind 1 (entries_in f s); changed = count_kind 2 (entries_in f s); only_second = count_kind 3 (entries_in f s) })
  tally = λ i. record { only_first = t.one i; changed = t.two i; only_second = t.three i }

  size : 17 * (c.only_first + c.changed + c.only_second) ≡ entries_length f s
  size =
      let all = all_counted (fit_entries f s t.first_passes t.second_passes) in
      let n = ap total tally in
      omega arith

  -- the bytes of both lists
  pub bytes_long : length (written (listed_by ones a)) + length (written (listed_by others b)) ≡ 17 * (c.only_first + c.changed + c.only_second)
  bytes_long =
      let w = written-size (fit_entries f s t.first_passes t.second_passes) in
      let j = ap (λ (l : List ℕ). length l) (sym (written_append (listed_by ones a) (listed_by others b)) ∙ ap written t.joined) in
      let l = length-append (written (listed_by ones a)) (written (listed_by others b)) in
      let z = size in
      omega arith

  -- too little room, and enough
  pub no_room : (room : ℕ) → leb (17 * (c.only_first + c.changed + c.only_second)) room ≡ false → refuse (bare 6) ≡ compare_check f s room
  unfolding compare_check unless
  no_room room h = sym (sym (second_decides _ _ (both_pass _ _ t.first_passes t.second_passes)) ∙ rw (← size, h))

  enough : (room : ℕ) → leb (17 * (c.only_first + c.changed + c.only_second)) room ≡ true → compare_check f s room ≡ pass
  unfolding compare_check unless
  enough room h = sym (second_decides _ _ (both_pass _ _ t.first_passes t.second_passes)) ∙ rw (← size, h)

  pub compared : (out₀ : List ℕ) {out₁ out₂ : List ℕ} (m n : ℕ) → leb (17 * (c.only_first + c.changed + c.only_second)) (length out₀) ≡ true
      → (m ≡ 0 + length (written (listed_by ones a))) × (out₁ ≡ take 0 out₀ ++ (written (listed_by ones a) ++ drop m out₀))
      → (n ≡ m + length (written (listed_by others b))) × (out₂ ≡ take m out₁ ++ (written (listed_by others b) ++ drop n out₁))
      → (returned (17 * total (tally_of c)) ≡ compare_answer f s (length out₀)) × ((tally_of c ≡ compare_counts f s (length out₀)) × (out₂ ≡ compare_buffer f s out₀))
  unfolding compare_answer compare_counts compare_buffer
  compared out₀ {out₁} {out₂} m n h e₁ e₂ =
      let x : List ℕ = written (listed_by ones a) in
      let y : List ℕ = written (listed_by others b) in
      let e : length x ≡ m = omega (arith, e₁.0) in
      let on = next_part out₀ x y out₁ out₂ m (length y) e e₁.1 (rw e₂.0 at e₂.1) in
      let end : m + length y ≡ entries_length f s = omega (arith, e, bytes_long, size) in
      let bytes : x ++ y ≡ written (entries_in f s) = sym (written_append (listed_by ones a) (listed_by others b)) ∙ ap written t.joined in
      rw (enough (length out₀) h) (ap returned size, (tally, rw (end, bytes) at on))

-- ---- a refusal

pub refused_first : (f s : List ℕ) (room : ℕ) {x : Reason} → bundle_check f ≡ refuse x → refuse x ≡ compare_check f s room
unfolding compare_check
refused_first f s room e = rw e refl

pub refused_second : (f s : List ℕ) (room : ℕ) {x : Reason} → bundle_check f ≡ pass → bundle_check s ≡ refuse x → refuse x ≡ compare_check f s room
unfolding compare_check
refused_second f s room p e = rw (p, e) refl

pub compare_refused : (f s : List ℕ) (out : List ℕ) {x : Reason} → refuse x ≡ compare_check f s (length out)
    → (refused x ≡ compare_answer f s (length out)) × ((record { only_first = 0; changed = 0; only_second = 0 } ≡ compare_counts f s (length out)) × (out ≡ compare_buffer f s out))
unfolding compare_answer compare_counts compare_buffer
compare_refused f s out e = rw (← e) (refl, (refl, refl))
