-- The words of a hash value, written one after the other.
use Prim.Native.Nat.{ℕ, zero, suc, ◌+◌, ◌-◌, ◌*◌, ◌<◌, ◌≤◌}
use mathlib.Core.Path.{◌≡◌, refl, sym, ap, ◌∙◌}
use mathlib.Core.List.{List, [], ◌∷◌, ◌++◌, append_assoc, append-nil}
use native.Mathlib.Omega.{arith}
use lib.ListN.{length, get_or, take, drop, replicate, length-append, length-replicate}
use lib.Seq.{take_at, drop_at, drop-drop, take_all}
use Rattle.std.specs.List.{flat_map}
use Rattle.std.proofs.lemmas.List.{take_more}
use Rattle.std.proofs.lemmas.List.Concat.{flat_map-append}
use Rattle.slices.specs.Numbers.{be32}

bytes-length : (words : List ℕ) (j : ℕ) → j ≤ length words → length (flat_map be32 (take j words)) ≡ 4 * j
bytes-length words zero h = refl
bytes-length [] (suc j) h = absurd (omega arith)
bytes-length (x ∷ words) (suc j) h = let rest = bytes-length words j (omega arith) in omega (arith, rest)

fewer-zeros : (n : ℕ) → 4 ≤ n → drop {A = ℕ} 4 (replicate n 0) ≡ replicate (n - 4) 0
fewer-zeros zero h = absurd (omega arith)
fewer-zeros (suc zero) h = absurd (omega arith)
fewer-zeros (suc (suc zero)) h = absurd (omega arith)
fewer-zeros (suc (suc (suc zero))) h = absurd (omega arith)
fewer-zeros (suc (suc (suc (suc n)))) h = let e : n ≡ suc (suc (suc (suc n))) - 4 = omega arith in ap (λ (k : ℕ). replicate k 0) e

-- the first j words are written, and zeros stand after them
abbrev pub written : List ℕ → ℕ → ℕ → List ℕ
written words size j = flat_map be32 (take j words) ++ replicate (size - 4 * j) 0

pub none_written : (words : List ℕ) (size : ℕ) → replicate size 0 ≡ written words size 0
none_written words size = let e : size ≡ size - 4 * 0 = omega arith in ap (λ (k : ℕ). replicate k 0) e

-- a turn of the loop over the words
module _ (words : List ℕ) (size j d : ℕ) (h : j < length words) (room : size ≡ 4 * length words) where
  one_word : take (4 * j) (written words size j) ++ (be32 (get_or words j d) ++ drop (4 * j + 4) (written words size j)) ≡ written words size (j + 1)
  one_word =
      let front = flat_map be32 (take j words) in
      let zeros = replicate (size - 4 * j) 0 in
      let w = be32 (get_or words j d) in
      let l : length front ≡ 4 * j = bytes-length words j (omega arith) in
      let left : 4 ≤ size - 4 * j = omega arith in
      let rest : drop (4 * j + 4) (front ++ zeros) ≡ replicate (size - 4 * j - 4) 0 =
      sym (drop-drop 4 (4 * j) (front ++ zeros)) ∙ ap (drop 4) (drop_at front zeros (4 * j) l) ∙ fewer-zeros (size - 4 * j) left in
      let count : size - 4 * j - 4 ≡ size - 4 * (j + 1) = omega arith in
      let more : flat_map be32 (take (j + 1) words) ≡ front ++ w = ap (flat_map be32) (take_more words j d h) ∙ flat_map-append be32 (take j words) (get_or words j d ∷ []) in
      (λ i. take_at front zeros (4 * j) l i ++ (w ++ rest i)) ∙ ap (λ (k : ℕ). front ++ (w ++ replicate k 0)) count
      ∙ sym (append_assoc front w (replicate (size - 4 * (j + 1)) 0)) ∙ ap (λ (x : List ℕ). x ++ replicate (size - 4 * (j + 1)) 0) (sym more)

  pub next_word : {r w s : List ℕ} → r ≡ written words size j → w ≡ be32 (get_or words j d)
      → (4 * j + length w ≤ length r → s ≡ take (4 * j) r ++ (w ++ drop (4 * j + length w) r)) → s ≡ written words size (j + 1)
  next_word {r} {w} er ew es =
      let l : length (flat_map be32 (take j words)) ≡ 4 * j = bytes-length words j (omega arith) in
      let lw : length w ≡ 4 = ap length ew in
      let lr : length r ≡ 4 * j + (size - 4 * j) = ap length er ∙ length-append (flat_map be32 (take j words)) (replicate (size - 4 * j) 0) ∙ (λ i. l i + length-replicate {A = ℕ} (size - 4 * j) 0 i) in
      es (omega (arith, lw, lr)) ∙ (λ i. take (4 * j) (er i) ++ (ew i ++ drop (4 * j + length (ew i)) (er i))) ∙ one_word

pub all_written : (words : List ℕ) (size j : ℕ) {r : List ℕ} → length words ≤ j → size ≡ 4 * length words → r ≡ written words size j → r ≡ flat_map be32 words
all_written words size j h room e =
    let none : size - 4 * j ≡ 0 = omega arith in
    e ∙ (λ i. flat_map be32 (take_all j words h i) ++ replicate (none i) 0) ∙ append-nil (flat_map be32 words)
