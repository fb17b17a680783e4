-- The column mixing and its inverse undo each other.
use mathlib.Core.Path.{◌≡◌, refl, sym, ap, ap₂, ◌∙◌}
use Prim.Native.Nat.{ℕ, zero, suc, ◌*◌, ◌/◌, ◌%◌, ◌<◌}
use native.Mathlib.Nat.{add-zero, zero-lt-suc, zero-mul, one-mul}
use lib.Bits.{bit_xor, xor_shr, xor_mod, xor_block, xor_comm, xor_zero_r}
use mathlib.Core.Bool.{Bool}
use Rattle.fips197.specs.State.{mix_byte, inv_mix_byte}
use lib.Dec.{T, eqb, eqb→eq}
use Rattle.aes_sbox.specs.Field.{xtime, mul_bits, mul}
use Rattle.aes_sbox.proofs.Table.{both, both_left, both_right, below}
use Rattle.fips197.proofs.Xor.{bit, mod2_lt, xor_assoc, xor_cancel}

-- ---- sums of four, over any operation that is associative and commutative

module _ (◌⊕◌ : ℕ → ℕ → ℕ) (comm : (a b : ℕ) → a ⊕ b ≡ b ⊕ a) (assoc : (a b c : ℕ) → (a ⊕ b) ⊕ c ≡ a ⊕ (b ⊕ c)) where
  infixl 20 ◌⊕◌
  pub exchange : (a b c d : ℕ) → (a ⊕ b) ⊕ (c ⊕ d) ≡ (a ⊕ c) ⊕ (b ⊕ d)
  exchange a b c d =
      assoc a b (c ⊕ d)
      ∙ ap (λ (x : ℕ). a ⊕ x) (sym (assoc b c d) ∙ ap (λ (x : ℕ). x ⊕ d) (comm b c) ∙ assoc c b d)
      ∙ sym (assoc a c (b ⊕ d))

  abbrev pub sum4 : ℕ → ℕ → ℕ → ℕ → ℕ
  sum4 a b c d = (a ⊕ b) ⊕ (c ⊕ d)

  -- the last of four to the front
  turn : (a b c d : ℕ) → sum4 b c d a ≡ sum4 a b c d
  turn a b c d =
      comm (b ⊕ c) (d ⊕ a)
      ∙ ap (λ (x : ℕ). x ⊕ (b ⊕ c)) (comm d a)
      ∙ exchange a d b c
      ∙ ap (λ (x : ℕ). (a ⊕ b) ⊕ x) (comm d c)

  add4 : (a b c d e f g h : ℕ) → sum4 a b c d ⊕ sum4 e f g h ≡ sum4 (a ⊕ e) (b ⊕ f) (c ⊕ g) (d ⊕ h)
  add4 a b c d e f g h = exchange (a ⊕ b) (c ⊕ d) (e ⊕ f) (g ⊕ h) ∙ ap₂ ◌⊕◌ (exchange a b e f) (exchange c d g h)

  turn2 : (a b c d : ℕ) → sum4 c d a b ≡ sum4 a b c d
  turn2 a b c d = comm (c ⊕ d) (a ⊕ b)

  ap₄ : {a b c d e f g h : ℕ} → a ≡ e → b ≡ f → c ≡ g → d ≡ h → sum4 a b c d ≡ sum4 e f g h
  ap₄ p q r s = ap₂ ◌⊕◌ (ap₂ ◌⊕◌ p q) (ap₂ ◌⊕◌ r s)

  -- four sums of four, by rows or by columns
  add44 : (a b c d e f g h i j k l m n o p : ℕ)
      → sum4 (sum4 a b c d) (sum4 e f g h) (sum4 i j k l) (sum4 m n o p)
      ≡ sum4 (sum4 a e i m) (sum4 b f j n) (sum4 c g k o) (sum4 d h l p)
  add44 a b c d e f g h i j k l m n o p =
      ap₂ ◌⊕◌ (add4 a b c d e f g h) (add4 i j k l m n o p)
      ∙ add4 (a ⊕ e) (b ⊕ f) (c ⊕ g) (d ⊕ h) (i ⊕ m) (j ⊕ n) (k ⊕ o) (l ⊕ p)

  abbrev pub Linear : (ℕ → ℕ) → Type 0
  Linear f = (a b : ℕ) → f (a ⊕ b) ≡ f a ⊕ f b

  linear4 : (f : ℕ → ℕ) → Linear f → (a b c d : ℕ) → f (sum4 a b c d) ≡ sum4 (f a) (f b) (f c) (f d)
  linear4 f l a b c d = l (a ⊕ b) (c ⊕ d) ∙ ap₂ ◌⊕◌ (l a b) (l c d)

-- ---- xtime is linear

abbrev Lin : (ℕ → ℕ) → Type 0
Lin f = (a b : ℕ) → f (bit_xor a b) ≡ bit_xor (f a) (f b)

twice : (a b : ℕ) → bit_xor a b * 2 ≡ bit_xor (a * 2) (b * 2)
twice a b =
    sym (ap₂ bit_xor (sym (add-zero (a * 2))) (sym (add-zero (b * 2))) ∙ xor_block 1 a b 0 0 (zero-lt-suc 1) (zero-lt-suc 1) ∙ add-zero (bit_xor a b * 2))

xtime_linear : Lin xtime
unfolding xtime
xtime_linear a b =
    ap₂ bit_xor
    (ap (λ (x : ℕ). x % 256) (twice a b) ∙ xor_mod (a * 2) (b * 2) 8)
    (ap (λ (x : ℕ). x % 2 * 0x1b) (xor_shr a b 7) ∙ ap (λ (x : ℕ). x * 0x1b) (xor_mod (a / 128) (b / 128) 1)
    ∙ bit (λ (n : ℕ). bit_xor n (b / 128 % 2) * 0x1b ≡ bit_xor (n * 0x1b) (b / 128 % 2 * 0x1b))
    refl
    (bit (λ (n : ℕ). bit_xor 1 n * 0x1b ≡ bit_xor 0x1b (n * 0x1b)) refl refl (b / 128 % 2) (mod2_lt (b / 128)))
    (a / 128 % 2) (mod2_lt (a / 128)))
    ∙ exchange bit_xor xor_comm xor_assoc (a * 2 % 256) (b * 2 % 256) (a / 128 % 2 * 0x1b) (b / 128 % 2 * 0x1b)

-- ---- the products that the mixing takes, by xtime

abbrev by2 : ℕ → ℕ
by2 a = xtime a

abbrev by3 : ℕ → ℕ
by3 a = bit_xor (xtime a) a

abbrev pub by4 : ℕ → ℕ
by4 a = xtime (xtime a)

abbrev by9 : ℕ → ℕ
by9 a = bit_xor (xtime (xtime (xtime a))) a

abbrev by11 : ℕ → ℕ
by11 a = bit_xor (xtime (xtime (xtime a))) (bit_xor (xtime a) a)

abbrev by13 : ℕ → ℕ
by13 a = bit_xor (xtime (xtime (xtime a))) (bit_xor (xtime (xtime a)) a)

abbrev by14 : ℕ → ℕ
by14 a = bit_xor (xtime (xtime (xtime a))) (bit_xor (xtime (xtime a)) (xtime a))

-- ---- and that they are the products of FIPS 197

product_zero : (n a : ℕ) → mul_bits n a 0 ≡ 0
unfolding mul_bits
product_zero zero a = refl
product_zero (suc n) a = ap₂ bit_xor (zero-mul a) (product_zero n (xtime a))

-- a bit of the factor that is not set, and one that is
module _ (n a b : ℕ) where
  product-off : b % 2 ≡ 0 → mul_bits (suc n) a b ≡ mul_bits n (xtime a) (b / 2)
  unfolding mul_bits
  product-off e = ap (λ (x : ℕ). bit_xor x (mul_bits n (xtime a) (b / 2))) (ap (λ (x : ℕ). x * a) e ∙ zero-mul a)

  product-on : b % 2 ≡ 1 → mul_bits (suc n) a b ≡ bit_xor (mul_bits n (xtime a) (b / 2)) a
  unfolding mul_bits
  product-on e =
      ap (λ (x : ℕ). bit_xor x (mul_bits n (xtime a) (b / 2))) (ap (λ (x : ℕ). x * a) e ∙ one-mul a) ∙ xor_comm a (mul_bits n (xtime a) (b / 2))

product_1 : (n a : ℕ) → mul_bits (suc n) a 1 ≡ a
product_1 n a = product-on n a 1 refl ∙ ap (λ (x : ℕ). bit_xor x a) (product_zero n (xtime a))

mul_2 : (a : ℕ) → mul a 2 ≡ by2 a
unfolding mul
mul_2 a = product-off 7 a 2 refl ∙ product_1 6 (xtime a)

mul_3 : (a : ℕ) → mul a 3 ≡ by3 a
unfolding mul
mul_3 a = product-on 7 a 3 refl ∙ ap (λ (x : ℕ). bit_xor x a) (product_1 6 (xtime a))

-- {04} and {08} in the factor, after its two lowest bits
product_2 : (a : ℕ) → mul_bits 6 a 2 ≡ by2 a
product_2 a = product-off 5 a 2 refl ∙ product_1 4 (xtime a)

product_3 : (a : ℕ) → mul_bits 6 a 3 ≡ by3 a
product_3 a = product-on 5 a 3 refl ∙ ap (λ (x : ℕ). bit_xor x a) (product_1 4 (xtime a))

mul_9 : (a : ℕ) → mul a 9 ≡ by9 a
unfolding mul
mul_9 a = product-on 7 a 9 refl ∙ ap (λ (x : ℕ). bit_xor x a) (product-off 6 (xtime a) 4 refl ∙ product_2 (xtime (xtime a)))

mul_11 : (a : ℕ) → mul a 11 ≡ by11 a
unfolding mul
mul_11 a =
    product-on 7 a 11 refl
    ∙ ap (λ (x : ℕ). bit_xor x a) (product-on 6 (xtime a) 5 refl ∙ ap (λ (x : ℕ). bit_xor x (xtime a)) (product_2 (xtime (xtime a))))
    ∙ xor_assoc (xtime (xtime (xtime a))) (xtime a) a

mul_13 : (a : ℕ) → mul a 13 ≡ by13 a
unfolding mul
mul_13 a =
    product-on 7 a 13 refl
    ∙ ap (λ (x : ℕ). bit_xor x a) (product-off 6 (xtime a) 6 refl ∙ product_3 (xtime (xtime a)))
    ∙ xor_assoc (xtime (xtime (xtime a))) (xtime (xtime a)) a

mul_14 : (a : ℕ) → mul a 14 ≡ by14 a
unfolding mul
mul_14 a =
    product-off 7 a 14 refl
    ∙ product-on 6 (xtime a) 7 refl
    ∙ ap (λ (x : ℕ). bit_xor x (xtime a)) (product_3 (xtime (xtime a)))
    ∙ xor_assoc (xtime (xtime (xtime a))) (xtime (xtime a)) (xtime a)

-- ---- the maps that the mixing takes are linear

add : (f g : ℕ → ℕ) → Lin f → Lin g → Lin (λ a. bit_xor (f a) (g a))
add f g l m a b = ap₂ bit_xor (l a b) (m a b) ∙ exchange bit_xor xor_comm xor_assoc (f a) (f b) (g a) (g b)

after : (f g : ℕ → ℕ) → Lin f → Lin g → Lin (λ a. f (g a))
after f g l m a b = ap f (m a b) ∙ l (g a) (g b)

same : Lin (λ a. a)
same a b = refl

four : Lin (λ a. xtime (xtime a))
four = after xtime xtime xtime_linear xtime_linear

eight : Lin (λ a. xtime (xtime (xtime a)))
eight = after xtime (λ a. xtime (xtime a)) xtime_linear four

lin3 : Lin by3
lin3 = add xtime (λ a. a) xtime_linear same

lin9 : Lin by9
lin9 = add (λ a. xtime (xtime (xtime a))) (λ a. a) eight same

lin11 : Lin by11
lin11 = add (λ a. xtime (xtime (xtime a))) by3 eight (add xtime (λ a. a) xtime_linear same)

lin13 : Lin by13
lin13 = add (λ a. xtime (xtime (xtime a))) (λ a. bit_xor (xtime (xtime a)) a) eight (add (λ a. xtime (xtime a)) (λ a. a) four same)

lin14 : Lin by14
lin14 = add (λ a. xtime (xtime (xtime a))) (λ a. bit_xor (xtime (xtime a)) (xtime a)) eight (add (λ a. xtime (xtime a)) xtime four xtime_linear)

-- ---- a row of four maps after another, each turned by one place from the one before

abbrev sum : ℕ → ℕ → ℕ → ℕ → ℕ
sum a b c d = bit_xor (bit_xor a b) (bit_xor c d)

module _ (f0 f1 f2 f3 g0 g1 g2 g3 : ℕ → ℕ) where
  -- what stands before a, b, c and d in the result: the identity before a, and 0 before the others
  first : ℕ → ℕ
  first k = sum (f0 (g0 k)) (f1 (g3 k)) (f2 (g2 k)) (f3 (g1 k))

  second : ℕ → ℕ
  second k = sum (f0 (g1 k)) (f1 (g0 k)) (f2 (g3 k)) (f3 (g2 k))

  third : ℕ → ℕ
  third k = sum (f0 (g2 k)) (f1 (g1 k)) (f2 (g0 k)) (f3 (g3 k))

  fourth : ℕ → ℕ
  fourth k = sum (f0 (g3 k)) (f1 (g2 k)) (f2 (g1 k)) (f3 (g0 k))

  -- the one test of each pair of rows, computed at 256 bytes
  unit : ℕ → Bool
  unit k = both (eqb (first k) k) (both (eqb (second k) 0) (both (eqb (third k) 0) (eqb (fourth k) 0)))

  record Unit4 (k : ℕ) : Type 0 where
    one : first k ≡ k
    two : second k ≡ 0
    three : third k ≡ 0
    four : fourth k ≡ 0

  unit4 : (k : ℕ) → T (unit k) → Unit4 k
  unfolding unit
  unit4 k t =
      let t1 = both_right (eqb (first k) k) _ t in
      let t2 = both_right (eqb (second k) 0) _ t1 in
      record {
        one = eqb→eq (first k) k (both_left (eqb (first k) k) _ t);
        two = eqb→eq (second k) 0 (both_left (eqb (second k) 0) _ t1);
        three = eqb→eq (third k) 0 (both_left (eqb (third k) 0) _ t2);
        four = eqb→eq (fourth k) 0 (both_right (eqb (third k) 0) _ t2);
      }

  module _ (l0 : Lin f0) (l1 : Lin f1) (l2 : Lin f2) (l3 : Lin f3) where
    rows : (a b c d : ℕ)
        → sum (f0 (sum (g0 a) (g1 b) (g2 c) (g3 d))) (f1 (sum (g0 b) (g1 c) (g2 d) (g3 a)))
        (f2 (sum (g0 c) (g1 d) (g2 a) (g3 b))) (f3 (sum (g0 d) (g1 a) (g2 b) (g3 c)))
        ≡ sum (first a) (second b) (third c) (fourth d)
    unfolding first second third fourth
    rows a b c d =
        ap₄ bit_xor xor_comm xor_assoc (linear4 bit_xor xor_comm xor_assoc f0 l0 (g0 a) (g1 b) (g2 c) (g3 d))
        (linear4 bit_xor xor_comm xor_assoc f1 l1 (g0 b) (g1 c) (g2 d) (g3 a) ∙ turn bit_xor xor_comm xor_assoc (f1 (g3 a)) (f1 (g0 b)) (f1 (g1 c)) (f1 (g2 d)))
        (linear4 bit_xor xor_comm xor_assoc f2 l2 (g0 c) (g1 d) (g2 a) (g3 b) ∙ turn2 bit_xor xor_comm xor_assoc (f2 (g2 a)) (f2 (g3 b)) (f2 (g0 c)) (f2 (g1 d)))
        (linear4 bit_xor xor_comm xor_assoc f3 l3 (g0 d) (g1 a) (g2 b) (g3 c) ∙ sym (turn bit_xor xor_comm xor_assoc (f3 (g0 d)) (f3 (g1 a)) (f3 (g2 b)) (f3 (g3 c))))
        ∙ add44 bit_xor xor_comm xor_assoc
        (f0 (g0 a)) (f0 (g1 b)) (f0 (g2 c)) (f0 (g3 d))
        (f1 (g3 a)) (f1 (g0 b)) (f1 (g1 c)) (f1 (g2 d))
        (f2 (g2 a)) (f2 (g3 b)) (f2 (g0 c)) (f2 (g1 d))
        (f3 (g1 a)) (f3 (g2 b)) (f3 (g3 c)) (f3 (g0 d))

    undo : ((k : ℕ) → k < 256 → Unit4 k) → (a b c d : ℕ) → a < 256 → b < 256 → c < 256 → d < 256
        → sum (f0 (sum (g0 a) (g1 b) (g2 c) (g3 d))) (f1 (sum (g0 b) (g1 c) (g2 d) (g3 a)))
        (f2 (sum (g0 c) (g1 d) (g2 a) (g3 b))) (f3 (sum (g0 d) (g1 a) (g2 b) (g3 c)))
        ≡ a
    undo u a b c d ha hb hc hd =
        rows a b c d
        ∙ ap₄ bit_xor xor_comm xor_assoc (u a ha).one (u b hb).two (u c hc).three (u d hd).four
        ∙ xor_zero_r (bit_xor a 0) ∙ xor_zero_r a

-- ---- the two rows

unmixes : (k : ℕ) → k < 256 → Unit4 by14 by11 by13 by9 by2 by3 (λ a. a) (λ a. a) k
unfolding unit first second third fourth xtime
unmixes k h =
    unit4 by14 by11 by13 by9 by2 by3 (λ a. a) (λ a. a) k
    (below (unit by14 by11 by13 by9 by2 by3 (λ a. a) (λ a. a)) 256 tt k h)

mixes : (k : ℕ) → k < 256 → Unit4 by2 by3 (λ a. a) (λ a. a) by14 by11 by13 by9 k
unfolding unit first second third fourth xtime
mixes k h =
    unit4 by2 by3 (λ a. a) (λ a. a) by14 by11 by13 by9 k
    (below (unit by2 by3 (λ a. a) (λ a. a) by14 by11 by13 by9) 256 tt k h)

abbrev mix_x : ℕ → ℕ → ℕ → ℕ → ℕ
mix_x a b c d = sum (by2 a) (by3 b) c d

abbrev inv_mix_x : ℕ → ℕ → ℕ → ℕ → ℕ
inv_mix_x a b c d = sum (by14 a) (by11 b) (by13 c) (by9 d)

mix_is : (a b c d : ℕ) → mix_byte a b c d ≡ mix_x a b c d
unfolding mix_byte
mix_is a b c d = ap₂ (λ (p q : ℕ). sum p q c d) (mul_2 a) (mul_3 b)

inv_is : (a b c d : ℕ) → inv_mix_byte a b c d ≡ inv_mix_x a b c d
unfolding inv_mix_byte
inv_is a b c d = ap₄ bit_xor xor_comm xor_assoc (mul_14 a) (mul_11 b) (mul_13 c) (mul_9 d)

module _ (a b c d : ℕ) (ha : a < 256) (hb : b < 256) (hc : c < 256) (hd : d < 256) where
  pub unmix_byte : inv_mix_byte (mix_byte a b c d) (mix_byte b c d a) (mix_byte c d a b) (mix_byte d a b c) ≡ a
  unmix_byte =
      inv_is (mix_byte a b c d) (mix_byte b c d a) (mix_byte c d a b) (mix_byte d a b c)
      ∙ ap₄ bit_xor xor_comm xor_assoc (ap by14 (mix_is a b c d)) (ap by11 (mix_is b c d a)) (ap by13 (mix_is c d a b)) (ap by9 (mix_is d a b c))
      ∙ undo by14 by11 by13 by9 by2 by3 (λ a. a) (λ a. a) lin14 lin11 lin13 lin9 unmixes a b c d ha hb hc hd

  pub mix_byte_lem : mix_byte (inv_mix_byte a b c d) (inv_mix_byte b c d a) (inv_mix_byte c d a b) (inv_mix_byte d a b c) ≡ a
  mix_byte_lem =
      mix_is (inv_mix_byte a b c d) (inv_mix_byte b c d a) (inv_mix_byte c d a b) (inv_mix_byte d a b c)
      ∙ ap₄ bit_xor xor_comm xor_assoc (ap by2 (inv_is a b c d)) (ap by3 (inv_is b c d a)) (inv_is c d a b) (inv_is d a b c)
      ∙ undo by2 by3 (λ a. a) (λ a. a) by14 by11 by13 by9 xtime_linear lin3 same same mixes a b c d ha hb hc hd

-- ---- the mixing with one doubling, as the code takes it: {02}(a + b) + b + (c + d)

pub one_doubling : (a b c d : ℕ) → bit_xor (bit_xor (xtime (bit_xor a b)) b) (bit_xor c d) ≡ mix_byte a b c d
one_doubling a b c d =
    ap (λ (x : ℕ). bit_xor x (bit_xor c d)) (ap (λ (x : ℕ). bit_xor x b) (xtime_linear a b) ∙ xor_assoc (xtime a) (xtime b) b)
    ∙ sym (mix_is a b c d)

-- ---- the inverse mixing by way of the mixing: {04}(a + c) and {04}(b + d) are added first

half_mix : (a b c d u v : ℕ) → u ≡ bit_xor (by4 a) (by4 c) → v ≡ bit_xor (by4 b) (by4 d)
    → mix_x (bit_xor a u) (bit_xor b v) (bit_xor c u) (bit_xor d v) ≡ inv_mix_x a b c d
half_mix a b c d u v eu ev =
    ap₂ (λ (p q : ℕ). sum p q (bit_xor c u) (bit_xor d v)) (xtime_linear a u) (lin3 b v)
    ∙ sym (add4 bit_xor xor_comm xor_assoc (by2 a) (by3 b) c d (by2 u) (by3 v) u v)
    ∙ ap (bit_xor (sum (by2 a) (by3 b) c d))
    (exchange bit_xor xor_comm xor_assoc (by2 u) (by3 v) u v
    ∙ ap₂ bit_xor (ap by3 eu ∙ lin3 (by4 a) (by4 c)) (xor_cancel (by2 v) v ∙ ap by2 ev ∙ xtime_linear (by4 b) (by4 d))
    ∙ exchange bit_xor xor_comm xor_assoc (by3 (by4 a)) (by3 (by4 c)) (by2 (by4 b)) (by2 (by4 d)))
    ∙ add4 bit_xor xor_comm xor_assoc (by2 a) (by3 b) c d (by3 (by4 a)) (by2 (by4 b)) (by3 (by4 c)) (by2 (by4 d))
    ∙ ap₄ bit_xor xor_comm xor_assoc
    (xor_comm (by2 a) (by3 (by4 a)) ∙ xor_assoc (by2 (by4 a)) (by4 a) (by2 a))
    (xor_comm (by3 b) (by2 (by4 b)))
    (xor_comm c (by3 (by4 c)) ∙ xor_assoc (by2 (by4 c)) (by4 c) c)
    (xor_comm d (by2 (by4 d)))

-- {04}(a + c) added to a and to c, {04}(b + d) to b and to d: the mixing of this is the inverse mixing
pub premix : (a b c d : ℕ)
    → mix_byte (bit_xor a (by4 (bit_xor a c))) (bit_xor b (by4 (bit_xor b d))) (bit_xor c (by4 (bit_xor c a))) (bit_xor d (by4 (bit_xor d b)))
    ≡ inv_mix_byte a b c d
premix a b c d =
    mix_is _ _ _ _
    ∙ ap₂ (λ (p q : ℕ). mix_x (bit_xor a (by4 (bit_xor a c))) (bit_xor b (by4 (bit_xor b d))) (bit_xor c (by4 p)) (bit_xor d (by4 q))) (xor_comm c a) (xor_comm d b)
    ∙ half_mix a b c d (by4 (bit_xor a c)) (by4 (bit_xor b d)) (four a c) (four b d)
    ∙ sym (inv_is a b c d)

-- ---- the inverse mixing of a sum

pub inv_mix_add : (a b c d e f g h : ℕ)
    → inv_mix_byte (bit_xor a e) (bit_xor b f) (bit_xor c g) (bit_xor d h) ≡ bit_xor (inv_mix_byte a b c d) (inv_mix_byte e f g h)
inv_mix_add a b c d e f g h =
    inv_is (bit_xor a e) (bit_xor b f) (bit_xor c g) (bit_xor d h)
    ∙ ap₄ bit_xor xor_comm xor_assoc (lin14 a e) (lin11 b f) (lin13 c g) (lin9 d h)
    ∙ sym (add4 bit_xor xor_comm xor_assoc (by14 a) (by11 b) (by13 c) (by9 d) (by14 e) (by11 f) (by13 g) (by9 h))
    ∙ sym (ap₂ bit_xor (inv_is a b c d) (inv_is e f g h))
