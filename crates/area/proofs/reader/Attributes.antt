-- Laws of one attribute: what each test of its length, its type and its padding makes of it.
use Rattle.std.proofs.Common.{◌≡◌, refl, sym, ap, ◌∙◌, ℕ, ◌+◌, ◌*◌, ◌≤◌, ◌<◌, Bool, true, false, ◌&&◌, Some, None, List, length, drop, get_or, eqb, arith}
use borrow.Author.Tests.{le-leb, lt-leb, leb-true, eq-eqb, ne_eqb}
use lib.Dec.{leb}
use lib.ListN.{drop_of_length-le}
use lib.Seq.{drop-cons}
use native.Mathlib.Numerals.{add-one}
use Rattle.slices.proofs.Truth.{and_left, and_right}
use Rattle.area_format.specs.Area.{type_of, words_of, number_of, in_bytes, in_bounds, kdf, zeros, words_for, padding, kdf_input, attribute}
use Rattle.area_format.specs.declared.Attribute.{Attribute}
use Rattle.area_format.specs.declared.Attribute.TheVariants.{Offer, Named, Other, Faulty}
use Rattle.area_format.specs.declared.Bytes.{Bytes}
use Rattle.area_format.specs.declared.Fault.TheVariants.{KdfLength, KdfInput, KdfInputPadding}
use Rattle.refusal.specs.Checks.{within}
use Rattle.refusal.proofs.Passing.{within_holds}
use Rattle.area.specs.Internal.{met_in}

-- fewer than four bytes hold no attribute
pub too_short : (bytes : List ℕ) → length bytes < 4 → in_bounds bytes ≡ false
unfolding in_bounds
too_short bytes h = sym (go (leb 2 (length bytes)) (leb 1 (words_of bytes).0) refl)
  where
    go : (t₁ t₂ : Bool) → leb 1 (words_of bytes).0 ≡ t₂ → false ≡ (t₁ && (t₂ && leb (in_bytes (words_of bytes)).0 (length bytes)))
    go false t₂ e = refl
    go true false e = refl
    go true true e =
        let l : 1 ≤ (words_of bytes).0 = leb-true 1 (words_of bytes).0 e in
        sym (lt-leb (in_bytes (words_of bytes)).0 (length bytes) (omega arith))

-- with four, the length decides
long_enough : (bytes : List ℕ) → 4 ≤ length bytes → in_bounds bytes ≡ (leb 1 (words_of bytes).0 && leb (in_bytes (words_of bytes)).0 (length bytes))
unfolding in_bounds
long_enough bytes h =
    let l : leb 2 (length bytes) ≡ true = le-leb 2 (length bytes) (omega arith) in
    rw l

-- what an attribute within the area has
pub not-empty : (bytes : List ℕ) → in_bounds bytes ≡ true → 1 ≤ (words_of bytes).0
unfolding in_bounds
not-empty bytes h = leb-true _ _ (and_left _ _ (and_right (leb 2 (length bytes)) _ h))

pub not_past : (bytes : List ℕ) → in_bounds bytes ≡ true → (in_bytes (words_of bytes)).0 ≤ length bytes
unfolding in_bounds
not_past bytes h = leb-true _ _ (and_right (leb 1 (words_of bytes).0) _ (and_right (leb 2 (length bytes)) _ h))

-- with four bytes, both tests of its length together
pub is_within : (bytes : List ℕ) (size : Bytes) → size ≡ in_bytes (words_of bytes) → 4 ≤ length bytes → 1 ≤ size.0 → size.0 ≤ length bytes → in_bounds bytes ≡ true
is_within bytes size e l h k =
    let n : size.0 ≡ 4 * (words_of bytes).0 = ap (λ (b : Bytes). b.0) e in
    long_enough bytes l ∙ rw (le-leb 1 (words_of bytes).0 (omega arith)) (le-leb (in_bytes (words_of bytes)).0 (length bytes) (omega arith))

pub not_within : (bytes : List ℕ) (size : Bytes) → size ≡ in_bytes (words_of bytes) → (1 ≤ size.0 → size.0 ≤ length bytes → ⊥) → in_bounds bytes ≡ false
not_within bytes size e outside = go (in_bounds bytes) refl
  where
    go : (t : Bool) → in_bounds bytes ≡ t → in_bounds bytes ≡ false
    go false f = f
    go true f =
        let n : size.0 ≡ 4 * (words_of bytes).0 = ap (λ (b : Bytes). b.0) e in
        let some : 1 ≤ (words_of bytes).0 = not-empty bytes f in
        let last : 4 * (words_of bytes).0 ≤ length bytes = not_past bytes f in
        elim (outside (omega arith) (omega arith)) [ ]

-- a test of a range that fails
pub out_of_range : (lo hi n : ℕ) → within lo hi n ≡ false → lo ≤ n → n ≤ hi → ⊥
out_of_range lo hi n e h k = let inside = within_holds lo hi n h k in cc

-- AT_KDF
pub kdf_read : (bytes : List ℕ) {number : ℕ} → number ≡ number_of bytes → (words_of bytes).0 ≡ 1 → Offer number ≡ kdf bytes
unfolding kdf
kdf_read bytes e h = rw (e, eq-eqb (words_of bytes).0 1 h)

pub kdf-refused : (bytes : List ℕ) → ((words_of bytes).0 ≡ 1 → ⊥) → Faulty KdfLength ≡ kdf bytes
unfolding kdf
kdf-refused bytes h = rw (ne_eqb (words_of bytes).0 1 h)

-- AT_KDF_INPUT
pub length_disagrees : (bytes : List ℕ) → ((words_of bytes).0 ≡ words_for (number_of bytes) → ⊥) → Faulty KdfInput ≡ kdf_input bytes
unfolding kdf_input
length_disagrees bytes h = rw (ne_eqb (words_of bytes).0 (words_for (number_of bytes)) h)

pub input_read : (bytes : List ℕ) → (words_of bytes).0 ≡ words_for (number_of bytes) → zeros (padding bytes (number_of bytes)) ≡ true
    → Named (record { 0 = number_of bytes }) ≡ kdf_input bytes
unfolding kdf_input
input_read bytes h z = rw (eq-eqb (words_of bytes).0 (words_for (number_of bytes)) h, z)

pub padding-refused : (bytes : List ℕ) → (words_of bytes).0 ≡ words_for (number_of bytes) → zeros (padding bytes (number_of bytes)) ≡ false
    → Faulty KdfInputPadding ≡ kdf_input bytes
unfolding kdf_input
padding-refused bytes h z = rw (eq-eqb (words_of bytes).0 (words_for (number_of bytes)) h, z)

-- the padding, whose bytes a loop looks at
module _ (s : List ℕ) (i : ℕ) (inv : zeros s ≡ zeros (drop i s)) where
  pub zeros-not : i < length s → (get_or s i 0 ≡ 0 → ⊥) → false ≡ zeros s
  unfolding zeros
  zeros-not h n = sym (inv ∙ rw (drop-cons s i 0, ne_eqb _ _ n))

  pub zeros-on : i < length s → get_or s i 0 ≡ 0 → zeros s ≡ zeros (drop (i + 1) s)
  unfolding zeros
  zeros-on h z = inv ∙ rw (add-one, drop-cons s i 0, eq-eqb _ _ z)

  pub zeros-end : length s ≤ i → true ≡ zeros s
  unfolding zeros
  zeros-end h = sym (inv ∙ rw drop_of_length-le)

-- the type
pub type_24 : (bytes : List ℕ) → type_of bytes ≡ 24 → kdf bytes ≡ attribute bytes
unfolding attribute
type_24 bytes h = rw (eq-eqb (type_of bytes) 24 h)

pub type_23 : (bytes : List ℕ) → type_of bytes ≡ 23 → kdf_input bytes ≡ attribute bytes
unfolding attribute
type_23 bytes h =
    let n : eqb (type_of bytes) 24 ≡ false = ne_eqb (type_of bytes) 24 (λ e. omega (arith, e)) in
    rw (n, eq-eqb (type_of bytes) 23 h)

pub type_other : (bytes : List ℕ) → (type_of bytes ≡ 24 → ⊥) → (type_of bytes ≡ 23 → ⊥) → Other ≡ attribute bytes
unfolding attribute
type_other bytes n m = rw (ne_eqb (type_of bytes) 24 n, ne_eqb (type_of bytes) 23 m)

-- what is met
pub met_some : (bytes : List ℕ) {a : Attribute} {size : Bytes} → in_bounds bytes ≡ true → a ≡ attribute bytes → size ≡ in_bytes (words_of bytes) → Some (a, size) ≡ met_in bytes
unfolding met_in
met_some bytes h e f = rw (h, e, f)

pub met_none : (bytes : List ℕ) → in_bounds bytes ≡ false → None ≡ met_in bytes
unfolding met_in
met_none bytes h = rw h
