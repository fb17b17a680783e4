-- The name of an area that is read whole lies within it.
use Prim.Native.Nat.{ℕ, zero, suc, ◌+◌, ◌-◌, ◌*◌, ◌≤◌}
use mathlib.Core.Path.{◌≡◌, refl, sym, ap, ◌∙◌}
use mathlib.Core.Bool.{Bool, true, false, cond}
use mathlib.Core.List.{List, [], ◌∷◌, ◌++◌}
use native.Mathlib.Omega.{arith}
use borrow.Author.Tests.{eqb-true}
use lib.ListN.{length, get_or}
use lib.Dec.{ltb, eqb}
use Rattle.refusal.specs.Checks.{bare}
use Rattle.area_format.specs.Area.{type_of, words_of, number_of, in_bounds, kdf, zeros, words_for, padding, kdf_input}
use Rattle.area_format.specs.Area.{attribute, Standing, standing, attributes_from, attributes, whole, refusal, ended, read_on}
use Rattle.area_format.specs.declared.Attribute.{Attribute}
use Rattle.area_format.specs.declared.Attribute.TheVariants.{Offer, Named, Other, Faulty}
use Rattle.area_format.specs.declared.Bytes.{Bytes}
use Rattle.area_format.specs.declared.Fault.TheVariants.{AttributeBounds, KdfLength, KdfInput, KdfInputPadding}
use Rattle.area_format.specs.declared.Name.{Name}
use Rattle.std.specs.Prelude.{Option, Some, None, Result, Ok}
use Rattle.area.specs.Internal.{walked_as}
use Rattle.area.specs.declared.walk.Stopped.{Stopped}
use Rattle.area.proofs.reader.Attributes.{not_past}

-- the name of an attribute that ends within the bytes stands within them, after four
named_within : (bytes : List ℕ) (l : Bytes) → 4 * get_or bytes 1 0 ≤ length bytes → attribute bytes ≡ Named l → 4 + l.0 ≤ length bytes
unfolding attribute kdf kdf_input
named_within bytes l h e =
    go (eqb (type_of bytes) 24) (eqb (type_of bytes) 23) (eqb (words_of bytes).0 1) (eqb (words_of bytes).0 (words_for (number_of bytes))) refl (zeros (padding bytes (number_of bytes))) e
  where
    go : (t₁ t₂ t₃ t₄ : Bool) → eqb (words_of bytes).0 (words_for (number_of bytes)) ≡ t₄ → (t₅ : Bool)
        → cond t₁ (cond t₃ (Offer (number_of bytes)) (Faulty KdfLength))
        (cond t₂ (cond t₄ (cond t₅ (Named (record { 0 = number_of bytes })) (Faulty KdfInputPadding)) (Faulty KdfInput)) Other) ≡ Named l
        → 4 + l.0 ≤ length bytes
    go true t₂ true t₄ r t₅ e = let z : ◌≡◌ {A = ℕ} 0 1 = cc in omega arith
    go true t₂ false t₄ r t₅ e = let z : ◌≡◌ {A = ℕ} 0 1 = cc in omega arith
    go false false t₃ t₄ r t₅ e = let z : ◌≡◌ {A = ℕ} 0 1 = cc in omega arith
    go false true t₃ false r t₅ e = let z : ◌≡◌ {A = ℕ} 0 1 = cc in omega arith
    go false true t₃ true r false e = let z : ◌≡◌ {A = ℕ} 0 1 = cc in omega arith
    go false true t₃ true r true e =
        let w : (words_of bytes).0 ≡ words_for (number_of bytes) = eqb-true _ _ r in
        let q : ◌≡◌ {A = Bytes} (record { 0 = number_of bytes }) l = cc in
        let n : number_of bytes ≡ l.0 = ap (λ (b : Bytes). b.0) q in
        omega arith

-- a name that was met stands within so many bytes
abbrev NameWithin : ℕ → Option Name → Type 0
NameWithin size None = Unit
NameWithin size (Some name) = name.at + name.len.0 ≤ size

-- which the number alone decides
name_same : {m n : ℕ} (name : Option Name) → m ≡ n → NameWithin m name → NameWithin n name
name_same None e w = tt
name_same (Some name) e w = omega arith

-- at the end the answer has the name that was met
at_the_end : (offers : List ℕ) (name : Option Name) (size : ℕ) {o : List ℕ} {a l : ℕ} → NameWithin size name → ended offers name ≡ whole o a l → a + l ≤ size
at_the_end offers None size w e = let z : ◌≡◌ {A = ℕ} 0 1 = cc in omega arith
at_the_end offers (Some name) size {o} {a} {l} w e = go (eqb (length offers) 0) e
  where
    go : (t : Bool) → cond t (refusal (bare 10)) (whole offers name.at name.len.0) ≡ whole o a l → a + l ≤ size
    go true e = let z : ◌≡◌ {A = ℕ} 0 1 = cc in omega arith
    go false e =
        let p : name.at ≡ a = cc in
        let q : name.len.0 ≡ l = cc in
        omega arith

-- one attribute more, where the rest of the reading keeps within the bytes
one_more : (at : ℕ) (m : Attribute) (later : List Standing) (offers : List ℕ) (name : Option Name) (size : ℕ) {o : List ℕ} {a l : ℕ}
    → ((n : Bytes) → m ≡ Named n → at + 4 + n.0 ≤ size)
    → ((offers : List ℕ) (name : Option Name) → NameWithin size name → read_on offers name later ≡ whole o a l → a + l ≤ size)
    → NameWithin size name → read_on offers name (standing at m ∷ later) ≡ whole o a l → a + l ≤ size
unfolding read_on
one_more at (Faulty x) later offers name size here rest w e = let z : ◌≡◌ {A = ℕ} 0 1 = cc in omega arith
one_more at Other later offers name size here rest w e = rest offers name w e
one_more at (Offer v) later offers name size {o} {a} {l} here rest w e = go (ltb (length offers) 17) e
  where
    go : (t : Bool) → cond t (read_on (offers ++ (v ∷ [])) name later) (refusal (bare 10)) ≡ whole o a l → a + l ≤ size
    go true e = rest (offers ++ (v ∷ [])) name w e
    go false e = let z : ◌≡◌ {A = ℕ} 0 1 = cc in omega arith
one_more at (Named n) later offers None size here rest w e = rest offers (Some (record { at = at + 4; len = n })) (here n refl) e
one_more at (Named n) later offers (Some met) size here rest w e = let z : ◌≡◌ {A = ℕ} 0 1 = cc in omega arith

-- by induction on the bytes
found_within : (left at : ℕ) (bytes offers : List ℕ) (name : Option Name) {o : List ℕ} {a l : ℕ} → NameWithin (at + length bytes) name
    → read_on offers name (attributes_from left at bytes) ≡ whole o a l → a + l ≤ at + length bytes
unfolding attributes_from read_on
found_within left at [] offers name w e = at_the_end offers name (at + 0) w e
found_within (suc left) at (x ∷ rest) offers name {o} {a} {l} w e =
    let k : at + suc (length rest) ≡ suc at + length rest = omega arith in
    let r : a + l ≤ suc at + length rest = found_within left (suc at) rest offers name (name_same name k w) e in
    omega arith
found_within zero at (x ∷ rest) offers name {o} {a} {l} w e =
    go (in_bounds (x ∷ rest)) refl (λ p n v f. found_within (4 * get_or (x ∷ rest) 1 0 - 1) (suc at) rest p n v f) e
  where
    go : (t : Bool) → in_bounds (x ∷ rest) ≡ t
        → ((p : List ℕ) (n : Option Name) → NameWithin (suc at + length rest) n → read_on p n (attributes_from (4 * get_or (x ∷ rest) 1 0 - 1) (suc at) rest) ≡ whole o a l
        → a + l ≤ suc at + length rest)
        → read_on offers name (cond t (standing at (attribute (x ∷ rest)) ∷ attributes_from (4 * get_or (x ∷ rest) 1 0 - 1) (suc at) rest) (standing at (Faulty AttributeBounds) ∷ [])) ≡ whole o a l
        → a + l ≤ at + suc (length rest)
    go true h ih e =
        let k : at + suc (length rest) ≡ suc at + length rest = omega arith in
        one_more at (attribute (x ∷ rest)) (attributes_from (4 * get_or (x ∷ rest) 1 0 - 1) (suc at) rest) offers name (at + suc (length rest))
        (λ n f. let k : 4 + n.0 ≤ suc (length rest) = named_within (x ∷ rest) n (not_past (x ∷ rest) h) f in omega arith)
        (λ p n v f. let r : a + l ≤ suc at + length rest = ih p n (name_same n k v) f in omega arith) w e
    go false h ih e = let z : ◌≡◌ {A = ℕ} 0 1 = cc in omega arith

-- the name of an area that is read whole stands within it
pub name-within : (area : List ℕ) {o : List ℕ} {a l : ℕ} → read_on [] None (attributes area) ≡ whole o a l → a + l ≤ length area
unfolding attributes
name-within area {o} {a} {l} e =
    let r : a + l ≤ 0 + length area = found_within 0 0 area [] None tt e in
    omega arith

-- the name that a walk found
pub name_of : (area offers : List ℕ) {result : Result Name Stopped} {name : Name} → walked_as result offers ≡ read_on [] None (attributes area) → result ≡ Ok name → name.at + name.len.0 ≤ length area
name_of area offers e is = name-within area (sym e ∙ ap (λ (r : Result Name Stopped). walked_as r offers) is)
