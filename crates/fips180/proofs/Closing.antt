-- The last hash value, over any compression: the padding of FIPS 180-4 as it is written into one block or two.
use mathlib.Core.Path.{◌≡◌, refl, sym, ap, ◌∙◌}
use mathlib.Core.List.{List, [], ◌∷◌, ◌++◌, append_assoc, append-nil}
use Prim.Native.Nat.{ℕ, zero, suc, ◌+◌, ◌-◌, ◌*◌, ◌/◌, ◌%◌, ◌^◌, ◌<◌, ◌≤◌}
use native.Mathlib.Omega.{arith}
use lib.ListN.{drop, length, take, replicate, set, length-append, length-replicate, get_or-replicate, replicate-append-replicate, drop_of_length-le}
use lib.Seq.{sets-eq, paste, paste-suc, take-append-add, take_at, drop_at, take_all, length-take-le}
use Rattle.slices.specs.Numbers.{be64}
use Rattle.fips180.specs.Hash.{padding, blocks_by}
use Rattle.fips180.specs.Internal.{closing_by}
use Rattle.fips180.proofs.Blocks.{one_block}
use Rattle.fips180.proofs.Padding.{padding-length}

take-replicate : (z m : ℕ) → z ≤ m → take {A = ℕ} z (replicate m 0) ≡ replicate z 0
take-replicate zero m h = refl
take-replicate (suc z) zero h = absurd (omega arith)
take-replicate (suc z) (suc m) h = ap (λ (l : List ℕ). 0 ∷ l) (take-replicate z m (omega arith))

-- ---- `mark`: a byte 0x80 at index a, and zeros after it

pub mark_turn : (d : List ℕ) (a j : ℕ) {b : List ℕ} → length d ≡ 64 → a < j → j < 64 → b ≡ paste d (a + 1) (replicate (63 - a) 0) (j - (a + 1))
    → set b j 0 ≡ paste d (a + 1) (replicate (63 - a) 0) (j + 1 - (a + 1))
mark_turn d a j l h k e =
    let z : List ℕ = replicate (63 - a) 0 in
    let i : ℕ = j - (a + 1) in
    let p : j ≡ a + 1 + i = omega arith in
    let q : suc i ≡ j + 1 - (a + 1) = omega arith in
    let lz : i < length z = small (length z) a j (length-replicate (63 - a) 0) h k in
    (λ t. set (e t) (p t) (sym (get_or-replicate (63 - a) i 0 0 (less a j h k)) t))
    ∙ paste-suc d (a + 1) z i 0 (inside a j (length d) l h k) lz
    ∙ ap (paste d (a + 1) z) q
  where
    less : (a j : ℕ) → a < j → j < 64 → j - (a + 1) < 63 - a
    less a j h k = omega arith

    small : (x a j : ℕ) → x ≡ 63 - a → a < j → j < 64 → j - (a + 1) < x
    small x a j e h k = omega arith

    inside : (a j x : ℕ) → x ≡ 64 → a < j → j < 64 → a + 1 + (j - (a + 1)) < x
    inside a j x e h k = omega arith

-- ---- `put_length`: the count of bits, by its bytes

by_bytes : (x : ℕ)
    → x / 2 ^ 56 % 256 ∷ x / 2 ^ 48 % 256 ∷ x / 2 ^ 40 % 256 ∷ x / 2 ^ 32 % 256 ∷ x / 2 ^ 24 % 256 ∷ x / 2 ^ 16 % 256 ∷ x / 2 ^ 8 % 256 ∷ x % 256 ∷ [] ≡ be64 x
by_bytes x =
    let e7 : x / 2 ^ 56 % 256 ≡ x / 2 ^ 32 / 2 ^ 24 % 256 = omega arith in
    let e6 : x / 2 ^ 48 % 256 ≡ x / 2 ^ 32 / 2 ^ 16 % 256 = omega arith in
    let e5 : x / 2 ^ 40 % 256 ≡ x / 2 ^ 32 / 2 ^ 8 % 256 = omega arith in
    let e3 : x / 2 ^ 24 % 256 ≡ x % 2 ^ 32 / 2 ^ 24 % 256 = omega arith in
    let e2 : x / 2 ^ 16 % 256 ≡ x % 2 ^ 32 / 2 ^ 16 % 256 = omega arith in
    let e1 : x / 2 ^ 8 % 256 ≡ x % 2 ^ 32 / 2 ^ 8 % 256 = omega arith in
    let e0 : x % 256 ≡ x % 2 ^ 32 % 256 = omega arith in
    λ i. e7 i ∷ e6 i ∷ e5 i ∷ x / 2 ^ 32 % 256 ∷ e3 i ∷ e2 i ∷ e1 i ∷ e0 i ∷ []

bits : (n : ℕ) → n % 2 ^ 61 * 8 ≡ 8 * n % 2 ^ 64
bits n = omega arith

pub length_put : (b : List ℕ) (n : ℕ) → length b ≡ 64
    → (let x : ℕ = n % 2 ^ 61 * 8 in
    set (set (set (set (set (set (set (set b 56 (x / 2 ^ 56 % 256)) 57 (x / 2 ^ 48 % 256)) 58 (x / 2 ^ 40 % 256)) 59 (x / 2 ^ 32 % 256)) 60 (x / 2 ^ 24 % 256)) 61 (x / 2 ^ 16 % 256)) 62 (x / 2 ^ 8 % 256)) 63 (x % 256))
    ≡ take 56 b ++ be64 (8 * n % 2 ^ 64)
length_put b n l =
    let x : ℕ = n % 2 ^ 61 * 8 in
    let v : List ℕ = x / 2 ^ 56 % 256 ∷ x / 2 ^ 48 % 256 ∷ x / 2 ^ 40 % 256 ∷ x / 2 ^ 32 % 256 ∷ x / 2 ^ 24 % 256 ∷ x / 2 ^ 16 % 256 ∷ x / 2 ^ 8 % 256 ∷ x % 256 ∷ [] in
    sets-eq v b 56 (room (length b) l) ∙ (λ i. take 56 b ++ by_bytes x i ++ drop_of_length-le b {i = 56 + length v} (end (length b) l) i)
    ∙ append-nil (take 56 b ++ be64 x) ∙ ap (λ (y : ℕ). take 56 b ++ be64 y) (bits n)
  where
    room : (k : ℕ) → k ≡ 64 → 64 ≤ k
    room k e = omega arith

    end : (k : ℕ) → k ≡ 64 → k ≤ 64
    end k e = omega arith

-- the message's length, copied to the block's last eight bytes
pub length_copied : (b : List ℕ) (n : ℕ) {c : List ℕ} → length b ≡ 64 → c ≡ take 56 b ++ (be64 (n * 8 % 2 ^ 64) ++ drop 64 b) → c ≡ take 56 b ++ be64 (8 * n % 2 ^ 64)
length_copied b n l e =
    let same : n * 8 % 2 ^ 64 ≡ 8 * n % 2 ^ 64 = omega arith in
    e ∙ ap (λ (k : ℕ). take 56 b ++ (be64 k ++ drop 64 b)) same ∙ ap (λ (x : List ℕ). take 56 b ++ (be64 (8 * n % 2 ^ 64) ++ x)) (drop_of_length-le b {i = 64} (end (length b) l)) ∙ ap (λ (x : List ℕ). take 56 b ++ x) (append-nil (be64 (8 * n % 2 ^ 64)))
  where
    end : (k : ℕ) → k ≡ 64 → k ≤ 64
    end k e = omega arith

pub length_kept : (b : List ℕ) (n : ℕ) {c : List ℕ} → length b ≡ 64 → c ≡ take 56 b ++ be64 (8 * n % 2 ^ 64) → length c ≡ 64
length_kept b n l e = ap length e ∙ length-append (take 56 b) (be64 (8 * n % 2 ^ 64)) ∙ ap (λ (k : ℕ). k + 8) (length-take-le 56 b (room (length b) l))
  where
    room : (k : ℕ) → k ≡ 64 → 56 ≤ k
    room k e = omega arith

pub mark_kept : (b : List ℕ) (a : ℕ) {c : List ℕ} → a < 64 → length b ≡ 64 → c ≡ take a b ++ (0x80 ∷ replicate (63 - a) 0) → length c ≡ 64
mark_kept b a h l e =
    ap length e ∙ length-append (take a b) (0x80 ∷ replicate (63 - a) 0)
    ∙ (λ i. length-take-le a b (room a (length b) h l) i + suc (length-replicate {A = ℕ} (63 - a) 0 i)) ∙ sum a h
  where
    room : (a k : ℕ) → a < 64 → k ≡ 64 → a ≤ k
    room a k h e = omega arith

    sum : (a : ℕ) → a < 64 → a + suc (63 - a) ≡ 64
    sum a h = omega arith

module _ (compress : List ℕ → List ℕ → List ℕ) where
  -- a message of two blocks
  two_blocks : (h b c : List ℕ) → length b ≡ 64 → length c ≡ 64 → blocks_by compress (length (b ++ c) / 64) h (b ++ c) ≡ compress (compress h b) c
  unfolding blocks_by
  two_blocks h b c lb lc =
      let n : length (b ++ c) / 64 ≡ 2 = simp length-append (half (length b) (length c) lb lc) in
      ap (λ (k : ℕ). blocks_by compress k h (b ++ c)) n
      ∙ (λ i. compress (compress h (take_at b c 64 lb i)) (take 64 (drop_at b c 64 lb i)))
      ∙ ap (compress (compress h b)) (take_all 64 c (le lc))
    where
      half : (x y : ℕ) → x ≡ 64 → y ≡ 64 → (x + y) / 64 ≡ 2
      half x y p q = omega arith

      le : {x : ℕ} → x ≡ 64 → x ≤ 64
      le e = omega arith

  -- n bytes, of which the last n % 64 stand in b; b' is b with the bit 1 and zeros after them
  module _ (h b : List ℕ) (n : ℕ) {b' : List ℕ} (lb : length b ≡ 64) (eb : b' ≡ take (n % 64) b ++ (0x80 ∷ replicate (63 - n % 64) 0)) where
    held-length : length (take (n % 64) b) ≡ n % 64
    held-length = length-take-le (n % 64) b (omega arith)

    -- the length fits after the bit 1
    pub close-one : {r : List ℕ} → n % 64 < 56 → r ≡ compress h (take 56 b' ++ be64 (8 * n % 2 ^ 64)) → r ≡ closing_by compress h (take (n % 64) b) n
    unfolding closing_by padding
    close-one {r} l e =
        let x : List ℕ = take (n % 64) b in
        let z : (119 - n % 64) % 64 ≡ 55 - n % 64 = omega arith in
        let k : 56 - n % 64 ≡ suc (55 - n % 64) = omega arith in
        let seam : length x + (56 - n % 64) ≡ 56 = ap (λ (j : ℕ). j + (56 - n % 64)) held-length ∙ whole (n % 64) l in
        let t : take 56 b' ≡ x ++ (0x80 ∷ replicate (55 - n % 64) 0) =
        (λ i. take (sym seam i) (eb i)) ∙ take-append-add x (0x80 ∷ replicate (63 - n % 64) 0) (56 - n % 64)
        ∙ ap (λ (j : ℕ). x ++ take j (0x80 ∷ replicate (63 - n % 64) 0)) k
        ∙ ap (λ (y : List ℕ). x ++ (0x80 ∷ y)) (take-replicate (55 - n % 64) (63 - n % 64) (omega arith)) in
        let y : List ℕ = x ++ (0x80 ∷ replicate ((119 - n % 64) % 64) 0 ++ be64 (8 * n % 2 ^ 64)) in
        let ey : take 56 b' ++ be64 (8 * n % 2 ^ 64) ≡ y =
        ap (λ (u : List ℕ). u ++ be64 (8 * n % 2 ^ 64)) (t ∙ ap (λ (j : ℕ). x ++ (0x80 ∷ replicate j 0)) (sym z)) ∙ append_assoc x (0x80 ∷ replicate ((119 - n % 64) % 64) 0) (be64 (8 * n % 2 ^ 64)) in
        let ly : length y ≡ 64 = length-append x (padding n) ∙ (λ i. held-length i + padding-length n i) ∙ sum (n % 64) l in
        e ∙ ap (compress h) ey ∙ sym (one_block compress h y ly)
      where
        whole : (a : ℕ) → a < 56 → a + (56 - a) ≡ 56
        whole a l = omega arith

        sum : (a : ℕ) → a < 56 → a + suc ((119 - a) % 64 + 8) ≡ 64
        sum a l = omega arith

    -- it does not: the bit 1 ends this block, and the length the next
    pub close-two : {g r : List ℕ} → 56 ≤ n % 64 → g ≡ blocks_by compress (length b' / 64) h b' → r ≡ compress g (replicate 56 0 ++ be64 (8 * n % 2 ^ 64)) → r ≡ closing_by compress h (take (n % 64) b) n
    unfolding closing_by padding
    close-two {g} {r} l eg e =
        let x : List ℕ = take (n % 64) b in
        let c : List ℕ = replicate 56 0 ++ be64 (8 * n % 2 ^ 64) in
        let d : List ℕ = x ++ (0x80 ∷ replicate (63 - n % 64) 0) in
        let ld : length d ≡ 64 = simp (length-append, length-replicate, held-length) (sum (n % 64) (omega arith)) in
        let z : (119 - n % 64) % 64 ≡ 63 - n % 64 + 56 = omega arith in
        let y : d ++ c ≡ x ++ (0x80 ∷ replicate ((119 - n % 64) % 64) 0 ++ be64 (8 * n % 2 ^ 64)) =
        append_assoc x (0x80 ∷ replicate (63 - n % 64) 0) c
        ∙ ap (λ (u : List ℕ). x ++ (0x80 ∷ u)) (sym (append_assoc (replicate (63 - n % 64) 0) (replicate 56 0) (be64 (8 * n % 2 ^ 64))))
        ∙ ap (λ (u : List ℕ). x ++ (0x80 ∷ u ++ be64 (8 * n % 2 ^ 64))) (replicate-append-replicate (63 - n % 64) 56 0 ∙ ap (λ (j : ℕ). replicate j 0) (sym z)) in
        e ∙ ap (λ (u : List ℕ). compress u c) (eg ∙ ap (λ (u : List ℕ). blocks_by compress (length u / 64) h u) eb ∙ one_block compress h d ld)
        ∙ sym (two_blocks h d c ld refl) ∙ ap (λ (u : List ℕ). blocks_by compress (length u / 64) h u) y
      where
        sum : (a : ℕ) → a < 64 → a + suc (63 - a) ≡ 64
        sum a l = omega arith
