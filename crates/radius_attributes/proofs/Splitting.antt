-- The split of bytes into attributes (specs/Statements.antt).
use Prim.Native.Nat.{ℕ, zero, suc, ◌-◌, ◌≤◌}
use mathlib.Core.Path.{◌≡◌, refl, sym, ap, ◌∙◌}
use mathlib.Core.Bool.{true, false}
use mathlib.Core.List.{List, [], ◌∷◌, ◌++◌, flatten}
use native.Mathlib.Omega.{arith}
use borrow.Author.Tests.{le-leb}
use lib.Dec.{leb}
use lib.ListN.{length, take, drop, get_or, length-append, take-append-drop, get_or-append}
use lib.Seq.{take-length, drop-nil, drop-length, take_at, drop_at}
use Rattle.radius_attributes.specs.Attributes.{whole, attribute_length, split_from, split}
use Rattle.radius_attributes.specs.Statements.{AllSplit, SplitNext, FirstSplit}
use Rattle.radius_attributes.proofs.Lengths.{length_some, length_cut}

-- what is left of an attribute is passed
pub passed : (left : ℕ) (bytes : List ℕ) → split_from left bytes ≡ split (drop left bytes)
unfolding split_from split
passed zero bytes = refl
passed (suc left) [] = refl
passed (suc left) (x ∷ rest) = passed left rest

-- n bytes from the first on are the first and n - 1 more
drop-one : (n x : ℕ) (rest : List ℕ) → 1 ≤ n → drop (n - 1) rest ≡ drop n (x ∷ rest)
drop-one zero x rest h = absurd (omega arith)
drop-one (suc n) x rest h = let e : suc n - 1 ≡ n = omega arith in rw e

pub split_next : SplitNext
unfolding split_from split
split_next [] h = absurd (omega arith)
split_next (x ∷ rest) h =
    let n : ℕ = attribute_length (x ∷ rest) in
    ap (λ (l : List (List ℕ)). take n (x ∷ rest) ∷ l) (passed (n - 1) rest ∙ ap split (drop-one n x rest (length_some (x ∷ rest) h)))

pub split-none : split [] ≡ []
unfolding split_from split
split-none = refl

-- all the bytes past those that are left
all_from : (left : ℕ) (bytes : List ℕ) → flatten (split_from left bytes) ≡ drop left bytes
unfolding split_from flatten
all_from left [] = sym (drop-nil left)
all_from (suc left) (x ∷ rest) = all_from left rest
all_from zero (x ∷ rest) =
    let n : ℕ = attribute_length (x ∷ rest) in
    ap (λ (l : List ℕ). take n (x ∷ rest) ++ l) (all_from (n - 1) rest ∙ drop-one n x rest (length_some (x ∷ rest) (omega arith)))
    ∙ take-append-drop n (x ∷ rest)

pub all_split : AllSplit
unfolding split
all_split bytes = all_from 0 bytes

-- the length of an attribute that counts its bytes, whatever follows it
pub length-counted : (a rest : List ℕ) → 2 ≤ length a → get_or a 1 0 ≡ length a → attribute_length (a ++ rest) ≡ length a
unfolding attribute_length whole
length-counted a rest h e =
    let l = length-append a rest in
    let b : get_or (a ++ rest) 1 0 ≡ length a = get_or-append a rest 0 1 (omega arith) ∙ e in
    let two : leb 2 (length a) ≡ true = le-leb 2 (length a) h in
    let fits : leb (length a) (length (a ++ rest)) ≡ true = le-leb (length a) (length (a ++ rest)) (omega arith) in
    rw (b, two, fits)

pub first-split : FirstSplit
first-split a rest h e =
    let l = length-append a rest in
    rw (split_next (a ++ rest) (omega arith), length-counted a rest h e, take_at a rest (length a) refl, drop_at a rest (length a) refl)

-- one that is cut is all that is left
pub cut_alone : (bytes : List ℕ) → 1 ≤ length bytes → whole bytes ≡ false → split bytes ≡ bytes ∷ []
cut_alone bytes h c = rw (split_next bytes h, ← length_cut bytes c, take-length, drop-length, split-none)
