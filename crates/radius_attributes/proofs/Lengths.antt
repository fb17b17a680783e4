-- Laws of the length of the attribute that bytes begin with.
use Prim.Native.Nat.{ℕ, ◌≤◌}
use mathlib.Core.Path.{◌≡◌, refl, ap, ◌∙◌}
use mathlib.Core.Bool.{Bool, true, false, cond}
use mathlib.Core.List.{List}
use native.Mathlib.Omega.{arith}
use borrow.Author.Tests.{le-leb, leb-true}
use lib.Dec.{leb}
use lib.ListN.{length, take, get_or}
use lib.Seq.{take-length, get_or-take, length-take-le}
use Rattle.slices.proofs.Truth.{and_left, and_right}
use Rattle.std.specs.Prelude.{Some, None}
use Rattle.radius_attributes.specs.Attributes.{whole, size_in, whole_size, attribute_length}

-- what a whole attribute has
pub whole-low : (bytes : List ℕ) → whole bytes ≡ true → 2 ≤ get_or bytes 1 0
unfolding whole
whole-low bytes h = leb-true _ _ (and_left _ _ h)

pub whole-high : (bytes : List ℕ) → whole bytes ≡ true → get_or bytes 1 0 ≤ length bytes
unfolding whole
whole-high bytes h = leb-true _ _ (and_right (leb 2 (get_or bytes 1 0)) _ h)

-- what `size_in` tells: nothing exactly where the attribute is cut, and else what the attribute takes
pub none_cut : (bytes : List ℕ) → whole_size bytes ≡ None → whole bytes ≡ false
unfolding whole_size
none_cut bytes e = go (whole bytes) (size_in bytes) refl e
  where
    go : (t : Bool) (n : ℕ) → whole bytes ≡ t → cond t (Some n) None ≡ None → whole bytes ≡ false
    go true n h e = cc
    go false n h e = h

pub record Whole (bytes : List ℕ) (n : ℕ) : Type 0 where
  pub whole : whole bytes ≡ true
  pub length : n ≡ attribute_length bytes

pub some_whole : (bytes : List ℕ) (n : ℕ) → whole_size bytes ≡ Some n → Whole bytes n
unfolding whole_size size_in attribute_length
some_whole bytes n e = go (whole bytes) refl e
  where
    go : (t : Bool) → whole bytes ≡ t → cond t (Some (cond t (get_or bytes 1 0) 0)) None ≡ Some n → Whole bytes n
    go true h e = record { whole = h; length = rw h cc }
    go false h e = cc

pub length_byte : (bytes : List ℕ) → whole bytes ≡ true → attribute_length bytes ≡ get_or bytes 1 0
unfolding attribute_length
length_byte bytes h = rw h

pub length_cut : (bytes : List ℕ) → whole bytes ≡ false → length bytes ≡ attribute_length bytes
unfolding attribute_length
length_cut bytes h = rw h

-- the first attribute has a byte where there is one, and ends within the bytes
pub length_some : (bytes : List ℕ) → 1 ≤ length bytes → 1 ≤ attribute_length bytes
unfolding attribute_length
length_some bytes h = go (whole bytes) refl
  where
    go : (t : Bool) → whole bytes ≡ t → 1 ≤ cond t (get_or bytes 1 0) (length bytes)
    go true e = omega (arith, whole-low bytes e)
    go false e = h

pub length_fits : (bytes : List ℕ) → attribute_length bytes ≤ length bytes
unfolding attribute_length
length_fits bytes = go (whole bytes) refl
  where
    go : (t : Bool) → whole bytes ≡ t → cond t (get_or bytes 1 0) (length bytes) ≤ length bytes
    go true e = whole-high bytes e
    go false e = omega arith

pub part_length : (bytes : List ℕ) → length (take (attribute_length bytes) bytes) ≡ attribute_length bytes
part_length bytes = length-take-le (attribute_length bytes) bytes (length_fits bytes)

-- as many bytes as its length byte says are whole by themselves
whole_taken : (bytes : List ℕ) (n : ℕ) → 2 ≤ n → n ≤ length bytes → get_or bytes 1 0 ≡ n → whole (take n bytes) ≡ true
unfolding whole
whole_taken bytes n low high q =
    let two : leb 2 n ≡ true = le-leb 2 n low in
    let fits : leb n n ≡ true = le-leb n n (omega arith) in
    rw (get_or-take n bytes 1 0 (omega arith), length-take-le n bytes high, q, two, fits)

-- an attribute is whole by itself where it is whole in the bytes
pub whole_part : (bytes : List ℕ) → whole (take (attribute_length bytes) bytes) ≡ whole bytes
unfolding attribute_length
whole_part bytes = go (whole bytes) refl
  where
    go : (t : Bool) → whole bytes ≡ t → whole (take (cond t (get_or bytes 1 0) (length bytes)) bytes) ≡ t
    go true e = whole_taken bytes (get_or bytes 1 0) (whole-low bytes e) (whole-high bytes e) refl
    go false e = ap whole (take-length bytes) ∙ e
