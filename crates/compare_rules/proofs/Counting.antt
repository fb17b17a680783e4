-- The counts returned are those of the list that is written.
use Prim.Native.Nat.{ℕ, zero, suc, ◌+◌, ◌*◌, ◌≤◌}
use mathlib.Core.Path.{◌≡◌, refl, sym, ap, ◌∙◌}
use mathlib.Core.Bool.{Bool, true, false, cond}
use mathlib.Core.List.{List, [], ◌∷◌, ◌++◌, append_assoc}
use native.Mathlib.Omega.{arith}
use lib.Dec.{eqb}
use lib.ListN.{length, drop, length-append}
use lib.Seq.{drop_at}
use Rattle.refusal.specs.Checks.{pass}
use Rattle.slices.specs.Same.{same_list}
use Rattle.refusal.proofs.Passing.{before-passed, last-passed}
use Rattle.refusal.proofs.Answering.{told_count}
use Rattle.bundle_rules.specs.Bundle.{key_id_in, frames_check, bodies_of, bundle_check}
use Rattle.bundle_rules.proofs.Packing.{sized, first_frame, later_frames}
use Rattle.bundle_rules.proofs.Reading.{laid, laid_frames}
use Rattle.bundle_rules.proofs.Written.{id-size}
use Rattle.compare_rules.specs.Compare.{Found, missing, found, lookup, kind_in_first, kind_in_second, Entry, listed, first_entries, second_entries, entries, written, count_kind, entries_in, entries_length, compare_check, compare_answer, compare_buffer, compare_counts}
use Rattle.compare_rules.specs.Statements.{kinds_in, Counts}

-- a kind that is listed is 1, 2 or 3
abbrev Kind : ℕ → Type 0
Kind k = eqb k 0 ≡ false → (1 ≤ k) × (k ≤ 3)

first_range : (b : List ℕ) (y : Found) → Kind (kind_in_first b y)
first_range b missing e = (omega arith, omega arith)
first_range b (found other) e = go (same_list b other) e
  where
    go : (s : Bool) → eqb (cond s 0 2) 0 ≡ false → (1 ≤ cond s 0 2) × (cond s 0 2 ≤ 3)
    go true e' = let z : ◌≡◌ {A = ℕ} 0 1 = cc in (omega arith, omega arith)
    go false e' = (omega arith, omega arith)

second_range : (x : Found) → Kind (kind_in_second x)
second_range missing e = (omega arith, omega arith)
second_range (found b) e = let z : ◌≡◌ {A = ℕ} 0 1 = cc in (omega arith, omega arith)

-- entries of such kinds, with Key IDs of 16 bytes
pub data Fit : List Entry → Type 0 where
  none : Fit []
  more : {e : Entry} {es : List Entry} → length e.id ≡ 16 → 1 ≤ e.kind → e.kind ≤ 3 → Fit es → Fit (e ∷ es)

fit_listed : (kind : ℕ) (id : List ℕ) {es : List Entry} → Kind kind → length id ≡ 16 → Fit es → Fit (listed kind id es)
unfolding listed
fit_listed kind id {es} k n r = go (eqb kind 0) refl
  where
    go : (t : Bool) → eqb kind 0 ≡ t → Fit (cond t es (record { kind = kind; id = id } ∷ es))
    go true q = r
    go false q = more n (k q).0 (k q).1 r

fit_append : {s t : List Entry} → Fit s → Fit t → Fit (s ++ t)
fit_append none q = q
fit_append (more n l h r) q = more n l h (fit_append r q)

fit_first : (second bodies : List (List ℕ)) → frames_check bodies ≡ pass → Fit (first_entries second bodies)
unfolding first_entries
fit_first second [] c = none
fit_first second (b ∷ bodies) c =
    fit_listed _ (key_id_in b) (first_range b (lookup (key_id_in b) second)) (id-size b (sized b (first_frame b bodies c))) (fit_first second bodies (later_frames b bodies c))

fit_second : (first bodies : List (List ℕ)) → frames_check bodies ≡ pass → Fit (second_entries first bodies)
unfolding second_entries
fit_second first [] c = none
fit_second first (b ∷ bodies) c =
    fit_listed _ (key_id_in b) (second_range (lookup (key_id_in b) first)) (id-size b (sized b (first_frame b bodies c))) (fit_second first bodies (later_frames b bodies c))

pub fit_entries : (f s : List ℕ) → bundle_check f ≡ pass → bundle_check s ≡ pass → Fit (entries_in f s)
unfolding entries_in entries
fit_entries f s p q = fit_append (fit_first (bodies_of s) (bodies_of f) (laid_frames (laid f p))) (fit_second (bodies_of f) (bodies_of s) (laid_frames (laid s q)))

-- ---- counts of such entries

one_each : (k : ℕ) → 1 ≤ k → k ≤ 3 → cond (eqb k 1) 1 0 + cond (eqb k 2) 1 0 + cond (eqb k 3) 1 0 ≡ 1
one_each zero l h = absurd (omega arith)
one_each (suc zero) l h = refl
one_each (suc (suc zero)) l h = refl
one_each (suc (suc (suc zero))) l h = refl
one_each (suc (suc (suc (suc k)))) l h = absurd (omega arith)

pub all_counted : {es : List Entry} → Fit es → count_kind 1 es + count_kind 2 es + count_kind 3 es ≡ length es
unfolding count_kind
all_counted none = refl
all_counted (more {e = e} n l h r) =
    let o = one_each e.kind l h in
    let m = all_counted r in
    omega arith

-- the bytes: 17 an entry
pub written-size : {es : List Entry} → Fit es → length (written es) ≡ 17 * length es
unfolding written
written-size none = refl
written-size (more {e = e} {es = es} n l h r) =
    let m = written-size r in
    let a = length-append e.id (written es) in
    omega arith

pub kinds_written : (k : ℕ) (tail : List ℕ) {es : List Entry} → Fit es → kinds_in k (length es) (written es ++ tail) ≡ count_kind k es
unfolding kinds_in written count_kind
kinds_written k tail none = refl
kinds_written k tail (more {e = e} {es = es} n l h r) =
    let d : drop 17 ((e.kind ∷ e.id ++ written es) ++ tail) ≡ written es ++ tail
    = ap (drop 16) (append_assoc e.id (written es) tail) ∙ drop_at e.id (written es ++ tail) 16 n in
    rw d (ap (λ (m : ℕ). cond (eqb e.kind k) 1 0 + m) (kinds_written k tail r))

-- ---- the call

both_passed : (f s : List ℕ) (room : ℕ) → compare_check f s room ≡ pass → (bundle_check f ≡ pass) × (bundle_check s ≡ pass)
unfolding compare_check
both_passed f s room e = (before-passed _ _ (before-passed _ _ e), last-passed _ _ (before-passed _ _ e))

pub counts : Counts
unfolding compare_answer compare_buffer compare_counts
counts f s out n c e q =
    let p = told_count (compare_check f s (length out)) (entries_length f s) n (sym e) in
    let b = both_passed f s (length out) p.0 in
    let fit = fit_entries f s b.0 b.1 in
    let all = all_counted fit in
    let tail : List ℕ = drop (entries_length f s) out in
    let t : record { only_first = count_kind 1 (entries_in f s); changed = count_kind 2 (entries_in f s); only_second = count_kind 3 (entries_in f s) } ≡ c = rw p.0 at q in
    rw (← t, p.0, all) (p.1, sym (kinds_written 1 tail fit), sym (kinds_written 2 tail fit), sym (kinds_written 3 tail fit))
