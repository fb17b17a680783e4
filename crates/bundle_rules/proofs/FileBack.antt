-- An accepted file is the file of its bodies.
use Prim.Native.Nat.{ℕ, zero, suc, ◌+◌, ◌*◌, ◌≤◌}
use mathlib.Core.Path.{◌≡◌, refl, ap, ◌∙◌}
use mathlib.Core.List.{List, ◌++◌, map, append_assoc}
use native.Mathlib.Nat.{add-zero}
use native.Mathlib.Omega.{arith}
use lib.ListN.{length, take, drop, length-map}
use Rattle.slices.specs.Bytes.{Bytes}
use Rattle.slices.specs.Numbers.{be16, be16_at}
use Rattle.bundle_rules.specs.Bundle.{contents_end, line_of, lines_of, file_of, line_at, lines_from, count_in, lines_in, body_of, bodies_of}
use Rattle.bundle_rules.specs.Statements.{FileBack}
use Rattle.bundle_rules.proofs.Bytes.{two_at, onto}
use Rattle.bundle_rules.proofs.Reading.{contents, Whole, Laid, next, laid, laid_flatten}

pub length_lines : (f : List ℕ) (i n : ℕ) → length (lines_from f i n) ≡ n
unfolding lines_from
length_lines f i zero = refl
length_lines f i (suc n) = ap suc (length_lines f (suc i) n)

pub length_bodies : (f : List ℕ) → length (bodies_of f) ≡ count_in f
length_bodies f = length-map (lines_in f) (body_of f) ∙ length_lines f 0 (count_in f)

-- a line's 20 bytes
line_back : (f : List ℕ) (i : ℕ) (after : List ℕ) → Bytes f → 2 + 20 * suc i ≤ length f → Whole f (line_at f i) → after ≡ drop (2 + 20 * suc i) f
    → line_of (line_at f i).offset (body_of f (line_at f i)) ++ after ≡ drop (2 + 20 * i) f
unfolding line_of line_at
line_back f i after b h w e =
    let size = onto (20 + 20 * i) 2 (2 + 20 * suc i) f (be16 (be16_at f (20 + 20 * i))) after (omega arith) (two_at (20 + 20 * i) f b (omega arith)) e in
    let offset = onto (18 + 20 * i) 2 (20 + 20 * i) f (be16 (be16_at f (18 + 20 * i))) _ (omega arith) (two_at (18 + 20 * i) f b (omega arith)) size in
    let id = onto (2 + 20 * i) 16 (18 + 20 * i) f (take 16 (drop (2 + 20 * i) f)) _ (omega arith) refl offset in
    rw (w.id_same, w.size_same) (append_assoc (take 16 (drop (2 + 20 * i) f)) _ after ∙ id)

lines_back : (f : List ℕ) (at i n : ℕ) → Bytes f → 2 + 20 * (i + n) ≤ length f → Laid f at (lines_from f i n)
    → lines_of at (map (body_of f) (lines_from f i n)) ++ drop (2 + 20 * (i + n)) f ≡ drop (2 + 20 * i) f
unfolding lines_of lines_from
lines_back f at i zero b h r = rw add-zero
lines_back f at i (suc n) b h (next o w r) =
    let same : suc i + n ≡ i + suc n = omega arith in
    let later = rw (same) at (lines_back f ((line_at f i).offset + (line_at f i).size) (suc i) n b (omega arith) r) in
    rw (← o, w.size_same) (append_assoc (line_of (line_at f i).offset (body_of f (line_at f i))) _ _ ∙ line_back f i _ b (omega arith) w later)

pub file_back : FileBack
unfolding file_of
file_back f b e =
    let c = contents f e in
    let l = laid f e in
    let n : 2 + 20 * (0 + count_in f) ≡ contents_end (count_in f) = omega arith in
    let h : 2 + 20 * (0 + count_in f) ≤ length f = omega (arith, c.inside) in
    let lines = rw n at (lines_back f (contents_end (count_in f)) 0 (count_in f) b h l) in
    rw (length_bodies f, laid_flatten l) (onto 0 2 2 f (be16 (count_in f)) _ refl (two_at 0 f b c.two) lines)
