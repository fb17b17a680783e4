-- Lists of bytes compared by words of four.
use Prim.Native.Nat.{ℕ, ◌+◌, ◌<◌, ◌≤◌}
use mathlib.Core.Path.{◌≡◌, refl, sym, ap, ◌∙◌}
use mathlib.Core.Bool.{Bool, true, false, ◌&&◌, and-true}
use mathlib.Core.List.{List, [], ◌∷◌}
use native.Mathlib.Nat.{add-zero}
use native.Mathlib.Omega.{arith}
use borrow.Author.Tests.{eq-eqb, eqb-true}
use lib.Dec.{eqb}
use lib.ListN.{length, drop, length-drop, drop_of_length-le}
use lib.Seq.{get_or-drop, drop-drop}
use Rattle.slices.specs.Numbers.{from_be32}
use Rattle.slices.specs.Same.{same_list}
use Rattle.slices.proofs.Truth.{and_left, and_right, same_truth}
use Rattle.slices.proofs.Same.{same_equal}
use Rattle.bundle_contents.specs.Internal.{word_at, BytesAt}

-- four bytes are the same where their words are
four_same : (p q r s p' q' r' s' : ℕ) → p < 256 → q < 256 → r < 256 → s < 256 → p' < 256 → q' < 256 → r' < 256 → s' < 256
    → (rest : Bool) → (eqb p p' && (eqb q q' && (eqb r r' && (eqb s s' && rest)))) ≡ (eqb (from_be32 s r q p) (from_be32 s' r' q' p') && rest)
four_same p q r s p' q' r' s' hp hq hr hs hp' hq' hr' hs' rest = same_truth _ _ there back
  where
    there : (eqb p p' && (eqb q q' && (eqb r r' && (eqb s s' && rest)))) ≡ true → (eqb (from_be32 s r q p) (from_be32 s' r' q' p') && rest) ≡ true
    there e =
        let e₁ = and_right (eqb p p') _ e in
        let e₂ = and_right (eqb q q') _ e₁ in
        let e₃ = and_right (eqb r r') _ e₂ in
        let a = eqb-true p p' (and_left _ _ e) in
        let b = eqb-true q q' (and_left _ _ e₁) in
        let c = eqb-true r r' (and_left _ _ e₂) in
        let d = eqb-true s s' (and_left _ _ e₃) in
        let w : from_be32 s r q p ≡ from_be32 s' r' q' p' = omega arith in
        rw (eq-eqb (from_be32 s r q p) (from_be32 s' r' q' p') w) (and_right (eqb s s') _ e₃)

    back : (eqb (from_be32 s r q p) (from_be32 s' r' q' p') && rest) ≡ true → (eqb p p' && (eqb q q' && (eqb r r' && (eqb s s' && rest)))) ≡ true
    back e =
        let w : from_be32 s r q p ≡ from_be32 s' r' q' p' = eqb-true _ _ (and_left _ _ e) in
        let d : s ≡ s' = omega arith in
        let c : r ≡ r' = omega arith in
        let b : q ≡ q' = omega arith in
        let a : p ≡ p' = omega arith in
        rw (eq-eqb p p' a, eq-eqb q q' b, eq-eqb r r' c, eq-eqb s s' d) (and_right (eqb (from_be32 s r q p) (from_be32 s' r' q' p')) _ e)

-- the first four of two lists
first_word : (a b : List ℕ) → 4 ≤ length a → 4 ≤ length b → BytesAt a 0 → BytesAt b 0 → same_list a b ≡ (eqb (word_at a 0) (word_at b 0) && same_list (drop 4 a) (drop 4 b))
unfolding same_list
first_word [] b h k m n = absurd (omega arith)
first_word (p ∷ []) b h k m n = absurd (omega arith)
first_word (p ∷ q ∷ []) b h k m n = absurd (omega arith)
first_word (p ∷ q ∷ r ∷ []) b h k m n = absurd (omega arith)
first_word (p ∷ q ∷ r ∷ s ∷ a) [] h k m n = absurd (omega arith)
first_word (p ∷ q ∷ r ∷ s ∷ a) (p' ∷ []) h k m n = absurd (omega arith)
first_word (p ∷ q ∷ r ∷ s ∷ a) (p' ∷ q' ∷ []) h k m n = absurd (omega arith)
first_word (p ∷ q ∷ r ∷ s ∷ a) (p' ∷ q' ∷ r' ∷ []) h k m n = absurd (omega arith)
first_word (p ∷ q ∷ r ∷ s ∷ a) (p' ∷ q' ∷ r' ∷ s' ∷ b) h k m n =
    four_same p q r s p' q' r' s' m.0 m.1 m.2 m.3 n.0 n.1 n.2 n.3 (same_list a b)

-- the word at a place is the first of what begins there
word-drop : (i : ℕ) (a : List ℕ) → word_at (drop i a) 0 ≡ word_at a i
word-drop i a = simp (get_or-drop, add-zero)

bytes_drop : (i : ℕ) (a : List ℕ) → BytesAt a i → BytesAt (drop i a) 0
bytes_drop i a m = simp (get_or-drop, add-zero) m

-- lists with a word that differs are not the same
pub words_differ : (a b : List ℕ) (i : ℕ) {x y : ℕ} → x ≡ word_at a i → y ≡ word_at b i → (x ≡ y → ⊥) → false ≡ same_list a b
words_differ a b i {x} {y} p q ne = go (same_list a b) refl
  where
    go : (t : Bool) → same_list a b ≡ t → false ≡ same_list a b
    go true e = elim (ne (p ∙ ap (λ (l : List ℕ). word_at l i) (same_equal a b e) ∙ sym q)) [ ]
    go false e = sym e

-- one word more, where those before it are the same; x and y are the words
module _ (a b : List ℕ) (i : ℕ) {x y : ℕ} (h : i + 4 ≤ length a) (k : i + 4 ≤ length b) (m : (x ≡ word_at a i) × BytesAt a i) (n : (y ≡ word_at b i) × BytesAt b i)
    (inv : same_list a b ≡ same_list (drop i a) (drop i b)) where
  word_next : same_list a b ≡ (eqb x y && same_list (drop (i + 4) a) (drop (i + 4) b))
  word_next =
      let p : 4 ≤ length (drop i a) = simp length-drop (omega arith) in
      let q : 4 ≤ length (drop i b) = simp length-drop (omega arith) in
      inv ∙ rw (word-drop i a, word-drop i b, ← m.0, ← n.0, drop-drop 4 i a, drop-drop 4 i b) at (first_word (drop i a) (drop i b) p q (bytes_drop i a m.1) (bytes_drop i b n.1))

  pub words_on : x ≡ y → same_list a b ≡ same_list (drop (i + 4) a) (drop (i + 4) b)
  words_on e = word_next ∙ rw (eq-eqb x y e)

  pub words_last : same_list (drop (i + 4) a) (drop (i + 4) b) ≡ true → eqb x y ≡ same_list a b
  words_last e = sym (word_next ∙ rw e (and-true (eqb x y)))

-- where lists end with the same word, they are the same from there on
pub word-ends : (a b : List ℕ) (i : ℕ) {x y : ℕ} → length a ≡ i + 4 → length b ≡ i + 4 → (x ≡ word_at a i) × BytesAt a i → (y ≡ word_at b i) × BytesAt b i → x ≡ y
    → same_list (drop i a) (drop i b) ≡ true
unfolding same_list
word-ends a b i p q m n e =
    let da = length-drop i a in
    let db = length-drop i b in
    let ha : 4 ≤ length (drop i a) = omega arith in
    let hb : 4 ≤ length (drop i b) = omega arith in
    let la : length (drop i a) ≤ 4 = omega arith in
    let lb : length (drop i b) ≤ 4 = omega arith in
    let w : word_at (drop i a) 0 ≡ word_at (drop i b) 0 = word-drop i a ∙ sym m.0 ∙ e ∙ n.0 ∙ sym (word-drop i b) in
    first_word (drop i a) (drop i b) ha hb (bytes_drop i a m.1) (bytes_drop i b n.1)
    ∙ rw (eq-eqb (word_at (drop i a) 0) (word_at (drop i b) 0) w, drop_of_length-le (drop i a) la, drop_of_length-le (drop i b) lb)
