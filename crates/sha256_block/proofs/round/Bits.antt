-- Other forms of SHA-256's functions on words, with fewer steps: Σ and σ by rotations of a sum without carry.
use Rattle.std.proofs.Common.{◌≡◌, ℕ, ◌+◌, ◌-◌, ◌^◌, ◌<◌, refl, ap, ◌∙◌, ap₂, arith}
use lib.Bits.{bit_xor, xor_lt}
use Rattle.fips180.specs.Words.{ROTR, SHR}
use Rattle.fips180.proofs.Bits.{xor, xor_assoc}
use Rattle.fips180.proofs.Rotations.{rot, rot_xor, rot_lt, rot_rot}
use Rattle.fips180.specs.Sha256.{Σ0, Σ1, σ0, σ1}

words_lt : (x y : ℕ) → x < 2 ^ 32 → y < 2 ^ 32 → xor x y < 2 ^ 32
unfolding xor
words_lt = xor_lt 32

-- Σ0 and Σ1, each from a rotation of a rotation
nested : (a b c d : ℕ) → a + (b + (c + d)) ≡ 32 → (x : ℕ) → x < 2 ^ 32
    → rot a (xor x (rot b (xor x (rot c x)))) ≡ xor (xor (rot a x) (rot (a + b) x)) (rot (a + (b + c)) x)
nested a b c d e x h =
    let inner : rot b (xor x (rot c x)) ≡ xor (rot b x) (rot (b + c) x) =
    rot_xor b (32 - b) (omega arith) x (rot c x) h (rot_lt c x h) ∙ ap (xor (rot b x)) (rot_rot b c (a + d) (shift1 a b c d e) x h) in
    let outer : rot a (xor (rot b x) (rot (b + c) x)) ≡ xor (rot (a + b) x) (rot (a + (b + c)) x) =
    rot_xor a (32 - a) (omega arith) (rot b x) (rot (b + c) x) (rot_lt b x h) (rot_lt (b + c) x h)
    ∙ ap₂ xor (rot_rot a b (c + d) e x h) (rot_rot a (b + c) d (shift2 a b c d e) x h) in
    ap (λ (y : ℕ). rot a (xor x y)) inner
    ∙ rot_xor a (32 - a) (omega arith) x (xor (rot b x) (rot (b + c) x)) h (words_lt (rot b x) (rot (b + c) x) (rot_lt b x h) (rot_lt (b + c) x h))
    ∙ ap (xor (rot a x)) outer
    ∙ xor_assoc (rot a x) (rot (a + b) x) (rot (a + (b + c)) x) (rot_lt a x h) (rot_lt (a + b) x h) (rot_lt (a + (b + c)) x h)
  where
    shift1 : (a b c d : ℕ) → a + (b + (c + d)) ≡ 32 → b + (c + (a + d)) ≡ 32
    shift1 a b c d e = omega arith

    shift2 : (a b c d : ℕ) → a + (b + (c + d)) ≡ 32 → a + (b + c + d) ≡ 32
    shift2 a b c d e = omega arith

-- σ0 and σ1: one rotation of a rotation, and a shift
once : (a b c : ℕ) → a + (b + c) ≡ 32 → (x : ℕ) → x < 2 ^ 32 → rot a (xor x (rot b x)) ≡ xor (rot a x) (rot (a + b) x)
once a b c e x h = rot_xor a (32 - a) (omega arith) x (rot b x) h (rot_lt b x h) ∙ ap (xor (rot a x)) (rot_rot a b c e x h)

-- ---- what the code computes

pub big0 : (x : ℕ) {p q r : ℕ} → x < 2 ^ 32 → p ≡ ROTR 9 x → q ≡ ROTR 11 (bit_xor x p) → r ≡ ROTR 2 (bit_xor x q) → r ≡ Σ0 x
unfolding xor rot
big0 x h ep eq er = er ∙ ap (λ (y : ℕ). rot 2 (xor x y)) (eq ∙ ap (λ (y : ℕ). rot 11 (xor x y)) ep) ∙ nested 2 11 9 10 refl x h

pub big1 : (x : ℕ) {p q r : ℕ} → x < 2 ^ 32 → p ≡ ROTR 14 x → q ≡ ROTR 5 (bit_xor x p) → r ≡ ROTR 6 (bit_xor x q) → r ≡ Σ1 x
unfolding xor rot
big1 x h ep eq er = er ∙ ap (λ (y : ℕ). rot 6 (xor x y)) (eq ∙ ap (λ (y : ℕ). rot 5 (xor x y)) ep) ∙ nested 6 5 14 7 refl x h

pub small0 : (x : ℕ) {p q : ℕ} → x < 2 ^ 32 → p ≡ ROTR 11 x → q ≡ ROTR 7 (bit_xor x p) → bit_xor q (SHR 3 x) ≡ σ0 x
unfolding xor rot
small0 x h ep eq = ap (λ (y : ℕ). bit_xor y (SHR 3 x)) (eq ∙ ap (λ (y : ℕ). rot 7 (xor x y)) ep ∙ once 7 11 14 refl x h)

pub small1 : (x : ℕ) {p q : ℕ} → x < 2 ^ 32 → p ≡ ROTR 2 x → q ≡ ROTR 17 (bit_xor x p) → bit_xor q (SHR 10 x) ≡ σ1 x
unfolding xor rot
small1 x h ep eq = ap (λ (y : ℕ). bit_xor y (SHR 10 x)) (eq ∙ ap (λ (y : ℕ). rot 17 (xor x y)) ep ∙ once 17 2 13 refl x h)
