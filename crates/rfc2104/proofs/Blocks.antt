-- The blocks of HMAC's key: a copy with zeros after it, a block masked byte by byte, and the key's block by the key's length.
use Prim.Native.Nat.{ℕ, zero, suc, ◌+◌, ◌-◌, ◌<◌, ◌≤◌}
use mathlib.Core.Path.{◌≡◌, sym, ap, ◌∙◌}
use mathlib.Core.Bool.{Bool, cond}
use mathlib.Core.List.{List, ◌++◌, map, append-nil}
use native.Mathlib.Decide.{dec_lt}
use native.Mathlib.Omega.{arith}
use borrow.Author.Tests.{le-leb, lt-leb}
use lib.Bits.{bit_xor}
use lib.Dec.{leb}
use lib.ListN.{length, get_or, set, take, drop, replicate, length-map, get_or-map, length-append, length-replicate, drop_of_length-le}
use lib.Seq.{take_all}
use Rattle.slices.proofs.Lists.{copy_turn}
use Rattle.rfc2104.specs.Rfc2104.{masked, short_key, key_block}

pub drop-replicate : (n m : ℕ) → drop {A = ℕ} n (replicate m 0) ≡ replicate (m - n) 0
drop-replicate zero m = let e : m ≡ m - 0 = omega arith in ap (λ (k : ℕ). replicate k 0) e
drop-replicate (suc n) zero = let e : 0 ≡ 0 - suc n = omega arith in ap (λ (k : ℕ). replicate k 0) e
drop-replicate (suc n) (suc m) = let e : m - n ≡ suc m - suc n = omega arith in drop-replicate n m ∙ ap (λ (k : ℕ). replicate k 0) e

-- the whole of s copied over zeros
pub filled_all : (s : List ℕ) → s ++ drop (length s) (replicate 64 0) ≡ s ++ replicate (64 - length s) 0
filled_all s = ap (λ (l : List ℕ). s ++ l) (drop-replicate (length s) 64)

-- a turn of the masking, and all its turns
pub mask_turn : (b : List ℕ) (c j : ℕ) {r : List ℕ} → r ≡ take j (masked b c) ++ drop j b → j < length b
    → set r j (bit_xor (get_or b j 0) c) ≡ take (j + 1) (masked b c) ++ drop (j + 1) b
unfolding masked
mask_turn b c j {r} e h =
    let f : ℕ → ℕ = λ x. bit_xor x c in
    let l : j < length (map f b) = omega (arith, length-map b f) in
    ap (set r j) (sym (get_or-map f b j 0)) ∙ copy_turn b (map f b) j (f 0) e h l

pub masked_all : (b : List ℕ) (c : ℕ) → length b ≡ 64 → take 64 (masked b c) ++ drop 64 b ≡ masked b c
unfolding masked
masked_all b c e =
    let f : ℕ → ℕ = λ x. bit_xor x c in
    let l : length (map f b) ≤ 64 = omega (arith, length-map b f) in
    (λ i. take_all 64 (map f b) l i ++ drop_of_length-le b {i = 64} (omega arith) i) ∙ append-nil (map f b)

pub masked-length : (b : List ℕ) (c : ℕ) → length (masked b c) ≡ length b
unfolding masked
masked-length b c = length-map b (λ x. bit_xor x c)

-- the key's block, by the key's length, under any hash
module _ (hash : List ℕ → List ℕ) where
  pub key_short : (k : List ℕ) {r : List ℕ} → length k ≤ 64 → r ≡ k ++ replicate (64 - length k) 0 → r ≡ key_block hash k
  unfolding key_block short_key
  key_short k h e =
      let s : cond (leb (length k) 64) k (hash k) ≡ k = ap (λ (t : Bool). cond t k (hash k)) (le-leb (length k) 64 h) in
      e ∙ sym (ap (λ (l : List ℕ). l ++ replicate (64 - length l) 0) s)

  pub key_long : (k : List ℕ) {d r : List ℕ} → 64 < length k → d ≡ hash k → r ≡ d ++ replicate (64 - length d) 0 → r ≡ key_block hash k
  unfolding key_block short_key
  key_long k h f e =
      let s : cond (leb (length k) 64) k (hash k) ≡ hash k = ap (λ (t : Bool). cond t k (hash k)) (lt-leb (length k) 64 h) in
      e ∙ ap (λ (l : List ℕ). l ++ replicate (64 - length l) 0) (f ∙ sym s)

  -- the key's block has 64 bytes, since a digest has no more
  pub key_block-length : ((m : List ℕ) → length (hash m) ≤ 64) → (k : List ℕ) → length (key_block hash k) ≡ 64
  unfolding key_block short_key
  key_block-length fits k =
      length-append (short_key hash k) (replicate (64 - length (short_key hash k)) 0)
      ∙ ap (λ (n : ℕ). length (short_key hash k) + n) (length-replicate (64 - length (short_key hash k)) 0)
      ∙ filled (length (short_key hash k)) (short (dec_lt 64 (length k)))
    where
      filled : (n : ℕ) → n ≤ 64 → n + (64 - n) ≡ 64
      filled n h = omega arith

      short : Dec (64 < length k) → length (cond (leb (length k) 64) k (hash k)) ≤ 64
      short (yes h) = rw (lt-leb (length k) 64 h) (fits k)
      short (no h) = let l : length k ≤ 64 = omega arith in rw (le-leb (length k) 64 l) l
