-- A line of a file: its parts by where it begins, and the lines from one on.
use Prim.Native.Nat.{ℕ, suc, ◌+◌, ◌*◌, ◌-◌, ◌≤◌, ◌<◌}
use mathlib.Core.Path.{◌≡◌, ap, ◌∙◌}
use mathlib.Core.List.{List, [], ◌∷◌}
use native.Mathlib.Numerals.{add-one}
use native.Mathlib.Omega.{arith}
use lib.ListN.{length, take, drop, length-drop}
use lib.Seq.{length-take-le}
use Rattle.slices.specs.Numbers.{be16_at}
use Rattle.bundle_rules.specs.Bundle.{contents_end, line_at, lines_from}

-- ---- a line that begins at a place

module _ (f : List ℕ) (i : ℕ) {at : ℕ} (e : at ≡ contents_end i) where
  pub id_told : take (at + 16 - at) (drop at f) ≡ (line_at f i).id
  unfolding line_at
  id_told =
      let m : at + 16 - at ≡ 16 = omega arith in
      rw (m, e)

  pub offset_told : {r : ℕ} → r ≡ be16_at f (at + 16) → r ≡ (line_at f i).offset
  unfolding line_at
  offset_told q =
      let m : at + 16 ≡ 18 + 20 * i = omega arith in
      q ∙ ap (λ (k : ℕ). be16_at f k) m

  pub size_told : {r : ℕ} → r ≡ be16_at f (at + 18) → r ≡ (line_at f i).size
  unfolding line_at
  size_told q =
      let m : at + 18 ≡ 20 + 20 * i = omega arith in
      q ∙ ap (λ (k : ℕ). be16_at f k) m

pub id_long : (f : List ℕ) (i : ℕ) {id : List ℕ} → id ≡ (line_at f i).id → contents_end (i + 1) ≤ length f → length id ≡ 16
unfolding line_at
id_long f i e h =
    let d = length-drop (2 + 20 * i) f in
    ap length e ∙ length-take-le 16 (drop (2 + 20 * i) f) (omega arith)

-- ---- the lines from one on

pub lines_next : (f : List ℕ) (i n : ℕ) → i < n → lines_from f i (n - i) ≡ line_at f i ∷ lines_from f (i + 1) (n - (i + 1))
unfolding lines_from
lines_next f i n h =
    let m : n - i ≡ suc (n - (i + 1)) = omega arith in
    rw (m, add-one i)

pub lines_done : (f : List ℕ) (i n : ℕ) → n ≤ i → lines_from f i (n - i) ≡ []
unfolding lines_from
lines_done f i n h =
    let m : n - i ≡ 0 = omega arith in
    rw m

-- the next of them, by its parts as they were read
pub lines_read : (f : List ℕ) (i n : ℕ) {id : List ℕ} {offset size : ℕ} → i < n → id ≡ (line_at f i).id → offset ≡ (line_at f i).offset → size ≡ (line_at f i).size
    → lines_from f i (n - i) ≡ record { id = id; offset = offset; size = size } ∷ lines_from f (i + 1) (n - (i + 1))
unfolding line_at
lines_read f i n h p o s = rw (p, o, s) (lines_next f i n h)
