-- No Key ID stands twice in an accepted file, and none is longer than 17,410 bytes.
use Prim.Native.Nat.{ℕ, zero, suc, ◌+◌, ◌<◌}
use mathlib.Core.Path.{◌≡◌, sym, ◌∙◌}
use mathlib.Core.Bool.{true, false}
use mathlib.Core.List.{List, [], ◌∷◌}
use native.Mathlib.Nat.{add-zero, zero-add}
use native.Mathlib.Omega.{arith}
use lib.ListN.{length, get_or, length-map}
use Rattle.slices.proofs.Truth.{or_left, or_right, or_true}
use Rattle.slices.specs.Same.{same_list}
use Rattle.slices.proofs.Same.{equal_same}
use Rattle.bundle_rules.specs.Bundle.{id_stands, id_repeats, Line, line_at, lines_from, count_in, lines_in, ids_of}
use Rattle.bundle_rules.specs.Statements.{NoneTwice, Longest}
use Rattle.bundle_rules.proofs.Reading.{contents, Whole, Laid, next, laid, laid_length}
use Rattle.bundle_rules.proofs.FileBack.{length_lines}

-- a Key ID at a place of a list stands in it
stands_at : (ids : List (List ℕ)) (j : ℕ) → j < length ids → id_stands (get_or ids j []) ids ≡ true
unfolding id_stands
stands_at [] j h = absurd (omega arith)
stands_at (x ∷ ids) zero h = rw (equal_same x)
stands_at (x ∷ ids) (suc j) h = or_true (same_list x (get_or ids j [])) _ (stands_at ids j (omega arith))

pub once_apart : (ids : List (List ℕ)) (i j : ℕ) → id_repeats ids ≡ false → i < j → j < length ids → get_or ids i [] ≡ get_or ids j [] → ⊥
unfolding id_repeats
once_apart [] i j e l h q = omega arith
once_apart (x ∷ ids) i zero e l h q = omega arith
once_apart (x ∷ ids) zero (suc j) e l h q =
    let s : id_stands x ids ≡ true = rw q (stands_at ids j (omega arith)) in
    let n : id_stands x ids ≡ false = or_left (id_stands x ids) _ e in
    let z : ◌≡◌ {A = ℕ} 0 1 = cc in
    omega arith
once_apart (x ∷ ids) (suc i) (suc j) e l h q = once_apart ids i j (or_right (id_stands x ids) _ e) (omega arith) (omega arith) q

-- the Key ID of line i, and its body
id_at : (f : List ℕ) (k n i : ℕ) → i < n → get_or (ids_of (lines_from f k n)) i [] ≡ (line_at f (k + i)).id
unfolding lines_from
id_at f k zero i h = absurd (omega arith)
id_at f k (suc n) zero h = rw add-zero
id_at f k (suc n) (suc i) h =
    let s : suc k + i ≡ k + suc i = omega arith in
    rw s at (id_at f (suc k) n i (omega arith))

pub whole_at : (f : List ℕ) {at : ℕ} (k n i : ℕ) → Laid f at (lines_from f k n) → i < n → Whole f (line_at f (k + i))
unfolding lines_from
whole_at f {at = at} k zero i r h = absurd (omega arith)
whole_at f {at = at} k (suc n) zero (next o w r) h = rw add-zero w
whole_at f {at = at} k (suc n) (suc i) (next o w r) h =
    let s : suc k + i ≡ k + suc i = omega arith in
    rw s at (whole_at f {at = (line_at f k).offset + (line_at f k).size} (suc k) n i r (omega arith))

pub none_twice : NoneTwice
none_twice f e i j l h q =
    let c = contents f e in
    let d = laid f e in
    let n : length (ids_of (lines_in f)) ≡ count_in f = length-map (lines_in f) (λ (x : Line). x.id) ∙ length_lines f 0 (count_in f) in
    let wi = rw (zero-add i) at (whole_at f 0 (count_in f) i d (omega arith)) in
    let wj = rw (zero-add j) at (whole_at f 0 (count_in f) j d h) in
    let gi = rw (zero-add i) at (id_at f 0 (count_in f) i (omega arith)) in
    let gj = rw (zero-add j) at (id_at f 0 (count_in f) j h) in
    once_apart (ids_of (lines_in f)) i j c.once l (omega arith) (gi ∙ sym wi.id_same ∙ q ∙ wj.id_same ∙ sym gj)

pub longest : Longest
longest f e =
    let c = contents f e in
    let l = laid_length (laid f e) in
    let n = length_lines f 0 (count_in f) in
    omega (arith, c.high)
