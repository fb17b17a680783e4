-- A block masked word by word is masked byte by byte: the bytes of a word's XOR are the XORs of its bytes.
use Prim.Native.Nat.{ℕ, suc, ◌+◌, ◌*◌, ◌/◌, ◌%◌, ◌^◌, ◌<◌, ◌≤◌}
use mathlib.Core.Path.{◌≡◌, refl, sym, ap, ◌∙◌}
use mathlib.Core.List.{List, [], ◌∷◌, ◌++◌, append_assoc}
use native.Mathlib.Omega.{arith}
use lib.Bits.{bit_xor, xor_shr, xor_mod}
use lib.ListN.{length, get_or, set, take, drop}
use lib.Seq.{sets-eq, get_or-append-add, get_or-drop, length-take-le}
use Rattle.slices.specs.Numbers.{be32, be32_at, from_be32}
use Rattle.rfc2104.specs.Rfc2104.{masked}
use Rattle.rfc2104.proofs.Blocks.{mask_turn, masked-length, masked_all}
use Rattle.hmac_block.specs.Internal.{byte_masked, word_masked}

-- a byte of the XOR of two words
byte_xor : (x y k : ℕ) {a b : ℕ} → x / 2 ^ k % 256 ≡ a → y / 2 ^ k % 256 ≡ b → bit_xor x y / 2 ^ k % 256 ≡ bit_xor a b
byte_xor x y k ea eb = ap (λ (n : ℕ). n % 256) (xor_shr x y k) ∙ xor_mod (x / 2 ^ k) (y / 2 ^ k) 8 ∙ (λ i. bit_xor (ea i) (eb i))

last_xor : (x y : ℕ) {a b : ℕ} → x % 256 ≡ a → y % 256 ≡ b → bit_xor x y % 256 ≡ bit_xor a b
last_xor x y ea eb = xor_mod x y 8 ∙ (λ i. bit_xor (ea i) (eb i))

module _ (a b c d : ℕ) (ha : a < 256) (hb : b < 256) (hc : c < 256) (hd : d < 256) where
  byte-0 : from_be32 a b c d / 2 ^ 24 % 256 ≡ a
  byte-0 = omega arith

  byte-1 : from_be32 a b c d / 2 ^ 16 % 256 ≡ b
  byte-1 = omega arith

  byte-2 : from_be32 a b c d / 2 ^ 8 % 256 ≡ c
  byte-2 = omega arith

  byte-3 : from_be32 a b c d % 256 ≡ d
  byte-3 = omega arith

word_xor : (a b c d p : ℕ) → a < 256 → b < 256 → c < 256 → d < 256 → p < 256
    → be32 (bit_xor (from_be32 a b c d) (from_be32 p p p p)) ≡ bit_xor a p ∷ bit_xor b p ∷ bit_xor c p ∷ bit_xor d p ∷ []
word_xor a b c d p ha hb hc hd hp =
    λ i. byte_xor _ _ 24 (byte-0 a b c d ha hb hc hd) (byte-0 p p p p hp hp hp hp) i
    ∷ byte_xor _ _ 16 (byte-1 a b c d ha hb hc hd) (byte-1 p p p p hp hp hp hp) i
    ∷ byte_xor _ _ 8 (byte-2 a b c d ha hb hc hd) (byte-2 p p p p hp hp hp hp) i
    ∷ last_xor _ _ (byte-3 a b c d ha hb hc hd) (byte-3 p p p p hp hp hp hp) i
    ∷ []

-- what the code copies to index i, from the word that it reads and the word of the pad
pub word-written : (s : List ℕ) (i p : ℕ) {w q : ℕ} {m r : List ℕ} → ((k : ℕ) → get_or s k 0 < 256) → p < 256 → i + 4 ≤ length s
    → w ≡ be32_at s i → q ≡ from_be32 p p p p → m ≡ be32 (bit_xor w q) → (i + length m ≤ length s → r ≡ take i s ++ (m ++ drop (i + length m) s)) → r ≡ word_masked s i p
word-written s i p {m = m} known hp room ew eq em er =
    let v : List ℕ = byte_masked s p i ∷ byte_masked s p (i + 1) ∷ byte_masked s p (i + 2) ∷ byte_masked s p (i + 3) ∷ [] in
    let ev : m ≡ v = em ∙ (λ j. be32 (bit_xor (ew j) (eq j)))
    ∙ word_xor (get_or s i 0) (get_or s (i + 1) 0) (get_or s (i + 2) 0) (get_or s (i + 3) 0) p (known i) (known (i + 1)) (known (i + 2)) (known (i + 3)) hp in
    let size : length m ≡ 4 = ap length ev in
    let e1 : suc i ≡ i + 1 = omega arith in
    let e2 : suc (suc i) ≡ i + 2 = omega arith in
    let e3 : suc (suc (suc i)) ≡ i + 3 = omega arith in
    er (omega (arith, size)) ∙ (λ j. take i s ++ (ev j ++ drop (i + length (ev j)) s)) ∙ sym (append_assoc (take i s) v (drop (i + 4) s)) ∙ sym (sets-eq v s i room)
    ∙ (λ j. set (set (set (set s i (byte_masked s p i)) (e1 j) (byte_masked s p (i + 1))) (e2 j) (byte_masked s p (i + 2))) (e3 j) (byte_masked s p (i + 3)))

-- ---- the turns over the words of a block

module _ (b : List ℕ) (p : ℕ) (l : length b ≡ 64) where
  -- the first k bytes are masked
  part : ℕ → List ℕ
  part k = take k (masked b p) ++ drop k b

  turn : (k n : ℕ) {r : List ℕ} → r ≡ part k → k < 64 → n ≡ k + 1 → set r k (bit_xor (get_or b k 0) p) ≡ part n
  unfolding part
  turn k n e h q = mask_turn b p k e (omega arith) ∙ ap part (sym q)

  -- what is not masked yet stands as it was
  rest_at : (k n : ℕ) → k ≤ 64 → get_or (part k) (k + n) 0 ≡ get_or b (k + n) 0
  unfolding part
  rest_at k n h =
      let t : length (take k (masked b p)) ≡ k = length-take-le k (masked b p) (omega (arith, masked-length b p)) in
      ap (λ (m : ℕ). get_or (take k (masked b p) ++ drop k b) (m + n) 0) (sym t)
      ∙ get_or-append-add (take k (masked b p)) (drop k b) n 0
      ∙ get_or-drop k b n 0

  byte_at : (k n : ℕ) → k ≤ 64 → byte_masked (part k) p (k + n) ≡ bit_xor (get_or b (k + n) 0) p
  byte_at k n h = ap (λ (x : ℕ). bit_xor x p) (rest_at k n h)

  four : (k n : ℕ) → k + 3 < 64 → n ≡ k + 4 → word_masked (part k) k p ≡ part n
  four k n h q =
      let z : k + 0 ≡ k = omega arith in
      let first : byte_masked (part k) p k ≡ bit_xor (get_or b k 0) p = ap (λ (m : ℕ). byte_masked (part k) p m) (sym z) ∙ byte_at k 0 (omega arith) ∙ ap (λ (m : ℕ). bit_xor (get_or b m 0) p) z in
      (λ i. set (set (set (set (part k) k (first i)) (k + 1) (byte_at k 1 (omega arith) i)) (k + 2) (byte_at k 2 (omega arith) i)) (k + 3) (byte_at k 3 (omega arith) i))
      ∙ turn (k + 3) n (turn (k + 2) (k + 3) (turn (k + 1) (k + 2) (turn k (k + 1) refl (omega arith) refl) (omega arith) (omega arith)) (omega arith) (omega arith)) h (omega arith)

  pub word_turn : (j : ℕ) {r s : List ℕ} → j < 16 → r ≡ take (4 * j) (masked b p) ++ drop (4 * j) b → s ≡ word_masked r (4 * j) p
      → s ≡ take (4 * (j + 1)) (masked b p) ++ drop (4 * (j + 1)) b
  unfolding part
  word_turn j h e w = w ∙ ap (λ (r : List ℕ). word_masked r (4 * j) p) e ∙ four (4 * j) (4 * (j + 1)) (omega arith) (omega arith)

  pub all_turns : {j : ℕ} {r : List ℕ} → j ≡ 16 → r ≡ take (4 * j) (masked b p) ++ drop (4 * j) b → r ≡ masked b p
  all_turns e er = er ∙ ap (λ (j : ℕ). take (4 * j) (masked b p) ++ drop (4 * j) b) e ∙ masked_all b p l
