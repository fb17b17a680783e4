-- Laws of the rotation of a word: it is taken apart into its two halves. The rotation of a sum without carry and of an `and`, a rotation of a
-- rotation, and the rotation to the left by 30 bits, which SHA-1's code leaves to the uses of a word.
use mathlib.Core.Path.{◌≡◌, refl, sym, ap, ap₂, ◌∙◌, subst}
use Prim.Native.Nat.{ℕ, ◌+◌, ◌-◌, ◌*◌, ◌/◌, ◌%◌, ◌^◌, ◌<◌, ◌≤◌}
use native.Mathlib.Nat.{add-mul, mul_assoc, add_assoc, add_comm, suc-mul, mod-lt, lt_of_le_of_lt, mul-le-mul_right}
use native.Mathlib.Omega.{arith}
use lib.Pow.{pow-add, pow_pos, split, high, low, shl_lt, shr_lt, shr_le, mod-pow-add}
use lib.Bits.{bit_or, bit_xor, bit_and, or_comm, xor_block, xor_lt, and_block, and_lt, or_lt, or_shifted_r}
use Rattle.fips180.specs.Words.{ROTR, ROTL}
use Rattle.fips180.proofs.Bits.{xor, and}

-- the rotation, shut
unfoldable pub rot : ℕ → ℕ → ℕ
rot n x = ROTR n x

-- a word's two parts change places
rot_parts : (n m h l : ℕ) → n + m ≡ 32 → h < 2 ^ m → l < 2 ^ n → rot n (h * 2 ^ n + l) ≡ l * 2 ^ m + h
unfolding rot
rot_parts n m h l e hh hl =
    let d : 32 - n ≡ m = omega arith in
    let f : (h * 2 ^ n + l) * 2 ^ m ≡ h * 2 ^ (n + m) + l * 2 ^ m = add-mul (h * 2 ^ n) l (2 ^ m) ∙ ap (λ (x : ℕ). x + l * 2 ^ m) (mul_assoc h (2 ^ n) (2 ^ m) ∙ ap (λ (x : ℕ). h * x) (sym (pow-add 2 n m))) in
    let g : (h * 2 ^ n + l) * 2 ^ (32 - n) % 2 ^ 32 ≡ l * 2 ^ m =
    (λ i. (h * 2 ^ n + l) * 2 ^ d i % 2 ^ sym e i) ∙ ap (λ (x : ℕ). x % 2 ^ (n + m)) f ∙ low h (n + m) (shl_lt n m hl) in
    ap₂ bit_or (high h n hl) g ∙ or_shifted_r l m h hh

module _ (n m : ℕ) (e : n + m ≡ 32) where
  top : (x : ℕ) → x < 2 ^ 32 → x / 2 ^ n < 2 ^ m
  top x h = shr_lt m n (subst (λ (k : ℕ). x < 2 ^ k) (flip n m e) h)
    where
      flip : (n m : ℕ) → n + m ≡ 32 → 32 ≡ m + n
      flip n m e = omega arith

  rot-split : (x : ℕ) → x < 2 ^ 32 → rot n x ≡ x % 2 ^ n * 2 ^ m + x / 2 ^ n
  rot-split x h = ap (rot n) (sym (split x n)) ∙ rot_parts n m (x / 2 ^ n) (x % 2 ^ n) e (top x h) (mod-lt x (pow_pos n))

  pub rot_xor : (x y : ℕ) → x < 2 ^ 32 → y < 2 ^ 32 → rot n (xor x y) ≡ xor (rot n x) (rot n y)
  unfolding xor
  rot_xor x y hx hy =
      ap (rot n) (ap₂ bit_xor (sym (split x n)) (sym (split y n)) ∙ xor_block n (x / 2 ^ n) (y / 2 ^ n) (x % 2 ^ n) (y % 2 ^ n) (mod-lt x (pow_pos n)) (mod-lt y (pow_pos n)))
      ∙ rot_parts n m (bit_xor (x / 2 ^ n) (y / 2 ^ n)) (bit_xor (x % 2 ^ n) (y % 2 ^ n)) e (xor_lt m (x / 2 ^ n) (y / 2 ^ n) (top x hx) (top y hy)) (xor_lt n (x % 2 ^ n) (y % 2 ^ n) (mod-lt x (pow_pos n)) (mod-lt y (pow_pos n)))
      ∙ sym (xor_block m (x % 2 ^ n) (y % 2 ^ n) (x / 2 ^ n) (y / 2 ^ n) (top x hx) (top y hy))
      ∙ sym (ap₂ bit_xor (rot-split x hx) (rot-split y hy))

  pub rot_and : (x y : ℕ) → x < 2 ^ 32 → y < 2 ^ 32 → rot n (and x y) ≡ and (rot n x) (rot n y)
  unfolding and
  rot_and x y hx hy =
      ap (rot n) (ap₂ bit_and (sym (split x n)) (sym (split y n)) ∙ and_block n (x / 2 ^ n) (y / 2 ^ n) (x % 2 ^ n) (y % 2 ^ n) (mod-lt x (pow_pos n)) (mod-lt y (pow_pos n)))
      ∙ rot_parts n m (bit_and (x / 2 ^ n) (y / 2 ^ n)) (bit_and (x % 2 ^ n) (y % 2 ^ n)) e (and_lt m (x / 2 ^ n) (y / 2 ^ n) (top x hx) (top y hy)) (and_lt n (x % 2 ^ n) (y % 2 ^ n) (mod-lt x (pow_pos n)) (mod-lt y (pow_pos n)))
      ∙ sym (and_block m (x % 2 ^ n) (y % 2 ^ n) (x / 2 ^ n) (y / 2 ^ n) (top x hx) (top y hy))
      ∙ sym (ap₂ bit_and (rot-split x hx) (rot-split y hy))

-- a rotation is a word
pub rot_lt : (n x : ℕ) → x < 2 ^ 32 → rot n x < 2 ^ 32
unfolding rot
rot_lt n x h = or_lt 32 (x / 2 ^ n) (x * 2 ^ (32 - n) % 2 ^ 32) (lt_of_le_of_lt (shr_le x n) h) (mod-lt (x * 2 ^ (32 - n)) (pow_pos 32))

-- two rotations are one: the word's three parts p, q, r become r, p, q and then q, r, p
pub rot_rot : (a b c : ℕ) → a + (b + c) ≡ 32 → (x : ℕ) → x < 2 ^ 32 → rot a (rot b x) ≡ rot (a + b) x
rot_rot a b c e x h =
    let p : ℕ = x / 2 ^ (a + b) in
    let q : ℕ = x / 2 ^ b % 2 ^ a in
    let r : ℕ = x % 2 ^ b in
    let hp : p < 2 ^ c = top (a + b) c (add_assoc a b c ∙ e) x h in
    let hq : q < 2 ^ a = mod-lt (x / 2 ^ b) (pow_pos a) in
    let hr : r < 2 ^ b = mod-lt x (pow_pos b) in
    let ex : x ≡ p * 2 ^ (a + b) + (q * 2 ^ b + r) = sym (split x (a + b)) ∙ ap (λ (k : ℕ). p * 2 ^ (a + b) + k) (mod-pow-add x a b) in
    let eh : p * 2 ^ (a + b) + (q * 2 ^ b + r) ≡ (p * 2 ^ a + q) * 2 ^ b + r =
    sym (add_assoc (p * 2 ^ (a + b)) (q * 2 ^ b) r) ∙ ap (λ (k : ℕ). k + r) (ap (λ (k : ℕ). k + q * 2 ^ b) (ap (λ (k : ℕ). p * k) (pow-add 2 a b) ∙ sym (mul_assoc p (2 ^ a) (2 ^ b))) ∙ sym (add-mul (p * 2 ^ a) q (2 ^ b))) in
    let one : rot b x ≡ r * 2 ^ (a + c) + (p * 2 ^ a + q) = ap (rot b) (ex ∙ eh) ∙ rot_parts b (a + c) (p * 2 ^ a + q) r (turned a b c e) (join-lt c a hp hq) hr in
    let two : r * 2 ^ (a + c) + (p * 2 ^ a + q) ≡ (r * 2 ^ c + p) * 2 ^ a + q =
    sym (add_assoc (r * 2 ^ (a + c)) (p * 2 ^ a) q) ∙ ap (λ (k : ℕ). k + q) (ap (λ (k : ℕ). k + p * 2 ^ a) (ap (λ (k : ℕ). r * 2 ^ k) (add_comm a c) ∙ ap (λ (k : ℕ). r * k) (pow-add 2 c a) ∙ sym (mul_assoc r (2 ^ c) (2 ^ a))) ∙ sym (add-mul (r * 2 ^ c) p (2 ^ a))) in
    let left : rot a (rot b x) ≡ q * 2 ^ (b + c) + (r * 2 ^ c + p) = ap (rot a) (one ∙ two) ∙ rot_parts a (b + c) (r * 2 ^ c + p) q e (low-lt b c hr hp) hq in
    let right : rot (a + b) x ≡ (q * 2 ^ b + r) * 2 ^ c + p = ap (rot (a + b)) ex ∙ rot_parts (a + b) c p (q * 2 ^ b + r) (add_assoc a b c ∙ e) hp (low-lt a b hq hr) in
    left ∙ sym (add_assoc (q * 2 ^ (b + c)) (r * 2 ^ c) p) ∙ ap (λ (k : ℕ). k + p) (ap (λ (k : ℕ). k + r * 2 ^ c) (ap (λ (k : ℕ). q * k) (pow-add 2 b c) ∙ sym (mul_assoc q (2 ^ b) (2 ^ c))) ∙ sym (add-mul (q * 2 ^ b) r (2 ^ c))) ∙ sym right
  where
    turned : (a b c : ℕ) → a + (b + c) ≡ 32 → b + (a + c) ≡ 32
    turned a b c e = omega arith

    product_lt : (u v h l : ℕ) → h < u → l < v → h * v + l < u * v
    product_lt u v h l hh hl =
        let e : h * v + v ≤ u * v = subst (λ (k : ℕ). k ≤ u * v) (suc-mul h v) (mul-le-mul_right v hh) in
        omega arith

    low-lt : (i j : ℕ) {h l : ℕ} → h < 2 ^ i → l < 2 ^ j → h * 2 ^ j + l < 2 ^ (i + j)
    low-lt i j {h} {l} hh hl = subst (λ (k : ℕ). h * 2 ^ j + l < k) (sym (pow-add 2 i j)) (product_lt (2 ^ i) (2 ^ j) h l hh hl)

    join-lt : (i j : ℕ) {h l : ℕ} → h < 2 ^ i → l < 2 ^ j → h * 2 ^ j + l < 2 ^ (j + i)
    join-lt i j {h} {l} hh hl = subst (λ (k : ℕ). h * 2 ^ j + l < 2 ^ k) (add_comm i j) (low-lt i j hh hl)

-- ---- the rotation to the left by 30 bits, which is that to the right by 2

left : (x : ℕ) → ROTL 30 x ≡ rot 2 x
unfolding rot
left x = or_comm (x * 2 ^ 30 % 2 ^ 32) (x / 2 ^ 2)

pub left_lt : (x : ℕ) → x < 2 ^ 32 → ROTL 30 x < 2 ^ 32
left_lt x h = subst (λ (r : ℕ). r < 2 ^ 32) (sym (left x)) (rot_lt 2 x h)

pub left_xor : (x y : ℕ) → x < 2 ^ 32 → y < 2 ^ 32 → ROTL 30 (bit_xor x y) ≡ bit_xor (ROTL 30 x) (ROTL 30 y)
unfolding xor
left_xor x y hx hy = left (bit_xor x y) ∙ rot_xor 2 30 refl x y hx hy ∙ sym (ap₂ bit_xor (left x) (left y))

pub left_and : (x y : ℕ) → x < 2 ^ 32 → y < 2 ^ 32 → ROTL 30 (bit_and x y) ≡ bit_and (ROTL 30 x) (ROTL 30 y)
unfolding and
left_and x y hx hy = left (bit_and x y) ∙ rot_and 2 30 refl x y hx hy ∙ sym (ap₂ bit_and (left x) (left y))

-- a whole turn, by 2 bits and by 30
pub turned_back : (x : ℕ) → x < 2 ^ 32 → ROTL 30 (ROTL 2 x) ≡ x
unfolding rot
turned_back x h =
    left (ROTL 2 x) ∙ ap (rot 2) (or_comm (x * 2 ^ 2 % 2 ^ 32) (x / 2 ^ 30)) ∙ rot_rot 2 30 0 refl x h ∙ rot-split 32 0 refl x h ∙ whole x h
  where
    whole : (x : ℕ) → x < 2 ^ 32 → x % 2 ^ 32 * 1 + x / 2 ^ 32 ≡ x
    whole x h = omega arith
