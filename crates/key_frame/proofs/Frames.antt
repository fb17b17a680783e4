-- What the tests of an attribute's frame say where they pass.
use Prim.Native.Nat.{ℕ, ◌-◌, ◌%◌, ◌≤◌, ◌<◌}
use mathlib.Core.Path.{◌≡◌}
use mathlib.Core.Bool.{Bool, true, false, ◌&&◌, and-false}
use mathlib.Core.List.{List}
use native.Mathlib.Omega.{arith}
use borrow.Author.Tests.{eqb-true, eqb-false, le-leb, lt-leb, not-true}
use lib.Dec.{leb, eqb}
use lib.ListN.{length, get_or}
use Rattle.refusal.specs.Checks.{pass, within}
use Rattle.refusal.proofs.Passing.{within_low, within-high, before-passed, last-passed, test_passed}
use Rattle.slices.proofs.Truth.{and_left, and_right}
use Rattle.slices.proofs.Same.{same_equal}
use Rattle.rfc3394.specs.Rfc3394.{initial_value}
use Rattle.keywrap.specs.Calls.{wrappable}
use Rattle.key_frame.specs.KeyFrame.{iv_in, length_holds, frame_check}

-- a length that a key to wrap may have
pub record KeyLength (n : ℕ) : Type 0 where
  pub low : 16 ≤ n
  pub high : n ≤ 192
  pub blocks : n % 8 ≡ 0

pub key-length : (n : ℕ) → wrappable n ≡ true → KeyLength n
unfolding wrappable
key-length n e =
    let w : within 16 192 n ≡ true = and_left _ _ e in
    record {
      low = within_low 16 192 n w;
      high = within-high 16 192 n w;
      blocks = eqb-true (n % 8) 0 (and_right (within 16 192 n) _ e);
    }

-- no key is so short
pub too_short : (n : ℕ) → n < 16 → wrappable n ≡ false
unfolding wrappable within
too_short n h = rw (lt-leb 16 n h)

-- an attribute whose length holds
pub record AttributeLength (a : List ℕ) : Type 0 where
  pub counted : get_or a 1 0 ≡ length a
  pub sized : wrappable (length a - 60) ≡ true
  pub key : KeyLength (length a - 60)

pub attribute-length : (a : List ℕ) → length_holds a ≡ true → AttributeLength a
unfolding length_holds
attribute-length a e =
    let r : (eqb (get_or a 1 0) (length a) && wrappable (length a - 60)) ≡ true = and_right (leb 2 (length a)) _ e in
    let s : wrappable (length a - 60) ≡ true = and_right (eqb (get_or a 1 0) (length a)) _ r in
    record {
      counted = eqb-true _ _ (and_left _ _ r);
      sized = s;
      key = key-length _ s;
    }

-- the length of fewer than 60 bytes does not hold
pub no_length : (a : List ℕ) → length a < 60 → false ≡ length_holds a
unfolding length_holds
no_length a h =
    let short : length a - 60 < 16 = omega arith in
    rw (too_short (length a - 60) short, and-false, and-false)

-- of 60 bytes and more it holds where the length byte counts them and the rest can be a key's
pub length_of : (a : List ℕ) (x : ℕ) (b : Bool) → 60 ≤ length a → x ≡ get_or a 1 0 → b ≡ wrappable (length a - 60) → (eqb x (length a) && b) ≡ length_holds a
unfolding length_holds
length_of a x b h e f =
    let two : 2 ≤ length a = omega arith in
    rw (e, f, le-leb 2 (length a) two)

-- an attribute whose frame passes
pub record Framed (a : List ℕ) : Type 0 where
  pub size : AttributeLength a
  pub kind : get_or a 0 0 ≡ 0 → ⊥
  pub reserved : get_or a 2 0 ≡ 0
  pub method : get_or a 3 0 ≡ 0
  pub iv : iv_in a ≡ initial_value

pub framed : (a : List ℕ) → frame_check a ≡ pass → Framed a
unfolding frame_check
framed a e =
    let c26 = before-passed _ _ e in
    let c25 = before-passed _ _ c26 in
    let c20 = before-passed _ _ c25 in
    let c24 = before-passed _ _ c20 in
    record {
      size = attribute-length a (test_passed _ _ c24);
      kind = eqb-false _ _ (not-true _ (test_passed _ _ (last-passed _ _ c20)));
      reserved = eqb-true _ _ (test_passed _ _ (last-passed _ _ c25));
      method = eqb-true _ _ (test_passed _ _ (last-passed _ _ c26));
      iv = same_equal _ _ (test_passed _ _ (last-passed _ _ e));
    }
