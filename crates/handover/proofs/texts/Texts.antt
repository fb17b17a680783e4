-- The texts of the KDF as their parts are put in place: the identifiers last to first, so that what stands after each is known.
use Prim.Native.Nat.{ℕ, ◌+◌}
use mathlib.Core.Path.{◌≡◌, refl, sym, ap, ◌∙◌}
use mathlib.Core.List.{List, [], ◌∷◌, ◌++◌, append_assoc}
use lib.ListN.{length, take, drop, set, replicate, length-append}
use lib.Seq.{take_at, drop_at}
use Rattle.handover_rules.specs.Kdf.{kdf_input}
use Rattle.handover_rules.specs.Handover.{r0_label, r1_label, r0_input, r1_input}

-- s is copied over the zeros z that stand at a, after h
part_put : (a : ℕ) (h z rest s : List ℕ) {d y : List ℕ} → d ≡ h ++ (z ++ rest) → length h ≡ a → length z ≡ length s
    → y ≡ take a d ++ (s ++ drop (a + length s) d) → y ≡ h ++ (s ++ rest)
part_put a h z rest s {d} ed lh lz ey =
    let front : take a d ≡ h = ap (take a) ed ∙ take_at h (z ++ rest) a lh in
    let seam : length (h ++ z) ≡ a + length s = length-append h z ∙ (λ i. lh i + lz i) in
    let back : drop (a + length s) d ≡ rest = ap (drop (a + length s)) (ed ∙ sym (append_assoc h z rest)) ∙ drop_at (h ++ z) rest (a + length s) seam in
    ey ∙ (λ i. front i ++ (s ++ back i))

-- what stands before the identifiers: 1 in two bytes, the label and a zero byte
abbrev head : List ℕ → List ℕ
head label = 1 ∷ 0 ∷ (label ++ (0 ∷ []))

-- what stands after them: 256 in two bytes
abbrev tail : List ℕ
tail = 0 ∷ 1 ∷ []

-- the text before an identifier is put in place
r0_begun : {t : List ℕ} → t ≡ take 44 (head r0_label) ++ drop 20 (replicate 44 0) → set t 43 1 ≡ (head r0_label ++ replicate 16 0) ++ (replicate 6 0 ++ tail)
unfolding r0_label
r0_begun e = ap (λ (t : List ℕ). set t 43 1) e

r1_begun : {t : List ℕ} → t ≡ take 60 (head r1_label) ++ drop 20 (replicate 60 0)
    → set t 59 1 ≡ (head r1_label ++ (replicate 16 0 ++ replicate 16 0)) ++ (replicate 6 0 ++ tail)
unfolding r1_label
r1_begun e = ap (λ (t : List ℕ). set t 59 1) e

-- z, x and y are the text after SPA, AN-ID and AD-ID are put in place
module _ (spa : List ℕ) (ls : length spa ≡ 6) {t z : List ℕ} (et : t ≡ take 44 (head r0_label) ++ drop 20 (replicate 44 0))
    (ez : z ≡ take 36 (set t 43 1) ++ (spa ++ drop (36 + length spa) (set t 43 1))) where
  r0_spa : z ≡ (head r0_label ++ replicate 16 0) ++ (spa ++ tail)
  unfolding r0_label
  r0_spa = part_put 36 (head r0_label ++ replicate 16 0) (replicate 6 0) tail spa (r0_begun et) refl (sym ls) ez

  pub r0_laid : (ad : List ℕ) {y : List ℕ} → length ad ≡ 16 → y ≡ take 20 z ++ (ad ++ drop (20 + length ad) z) → y ≡ r0_input ad spa 1
  unfolding r0_input kdf_input r0_label
  r0_laid ad la ey = part_put 20 (head r0_label) (replicate 16 0) (spa ++ tail) ad r0_spa refl (sym la) ey ∙ simp append_assoc

module _ (spa : List ℕ) (ls : length spa ≡ 6) {t z : List ℕ} (et : t ≡ take 60 (head r1_label) ++ drop 20 (replicate 60 0))
    (ez : z ≡ take 52 (set t 59 1) ++ (spa ++ drop (52 + length spa) (set t 59 1))) where
  r1_spa : z ≡ (head r1_label ++ (replicate 16 0 ++ replicate 16 0)) ++ (spa ++ tail)
  unfolding r1_label
  r1_spa = part_put 52 (head r1_label ++ (replicate 16 0 ++ replicate 16 0)) (replicate 6 0) tail spa (r1_begun et) refl (sym ls) ez

  module _ (an : List ℕ) (ln : length an ≡ 16) {x : List ℕ} (ex : x ≡ take 36 z ++ (an ++ drop (36 + length an) z)) where
    r1-an : x ≡ (head r1_label ++ replicate 16 0) ++ (an ++ (spa ++ tail))
    unfolding r1_label
    r1-an = part_put 36 (head r1_label ++ replicate 16 0) (replicate 16 0) (spa ++ tail) an r1_spa refl (sym ln) ex

    pub r1-laid : (ad : List ℕ) {y : List ℕ} → length ad ≡ 16 → y ≡ take 20 x ++ (ad ++ drop (20 + length ad) x) → y ≡ r1_input ad an spa 1
    unfolding r1_input kdf_input r1_label
    r1-laid ad la ey = part_put 20 (head r1_label) (replicate 16 0) (an ++ (spa ++ tail)) ad r1-an refl (sym la) ey ∙ simp append_assoc
