-- A step of the wrapping and the step that unwraps it undo each other, both ways, over any cipher whose two directions do; so do passes, and any number of
-- passes. A step keeps eight bytes in A, and the count of bytes in R.
use mathlib.Core.Path.{◌≡◌, refl, sym, ap, ap₂, ◌∙◌}
use mathlib.Core.List.{List, [], ◌∷◌, ◌++◌}
use Prim.Native.Nat.{ℕ, zero, suc, ◌+◌, ◌*◌, ◌/◌, ◌%◌, ◌^◌, ◌≤◌, ◌<◌}
use native.Mathlib.Omega.{arith}
use lib.Bits.{bit_xor, xor_lt}
use lib.ListN.{length, take, drop, length-drop}
use lib.Seq.{length-take-le, take_at, drop_at}
use borrow.Rule.Slice.PartMut.{same_len_mid, put_same, take_put}
use Rattle.fips197.specs.State.{State, Block, block, column}
use Rattle.fips197.proofs.Xor.{xor_cancel}
use Rattle.slices.specs.Bytes.{Bytes}
use Rattle.rfc3394.specs.Rfc3394.{joined, high, low, add_count, block_at, with_block, Registers, wrap_step, unwrap_step, wrap_pass, unwrap_pass, wrap_passes, unwrap_passes}
use Rattle.slices.proofs.Bytes.{bytes_append, bytes_take, bytes_drop}
use Rattle.rfc3394.proofs.Halves.{Half, half, half_bytes, block_half}

pub registers≡ : {a b c d : List ℕ} → a ≡ c → b ≡ d → ◌≡◌ {A = Registers} (a, b) (c, d)
registers≡ p q = λ i. (p i, q i)

-- ---- a state and its halves

joined-block : {a m : List ℕ} → Half a → Half m → Block (joined a m)
joined-block (half a b c d e f g h) (half i j k l m n o p) = block (column a b c d) (column e f g h) (column i j k l) (column m n o p)

high_half : {s : State} → Block s → Half (high s)
high_half (block (column a b c d) (column e f g h) p q) = half a b c d e f g h

low_half : {s : State} → Block s → Half (low s)
low_half (block p q (column a b c d) (column e f g h)) = half a b c d e f g h

parted : {s : State} → Block s → joined (high s) (low s) ≡ s
parted (block (column a b c d) (column e f g h) (column i j k l) (column m n o p)) = refl

high-joined : {a : List ℕ} (m : List ℕ) → Half a → high (joined a m) ≡ a
high-joined m (half a b c d e f g h) = refl

low-joined : (a : List ℕ) {m : List ℕ} → Half m → low (joined a m) ≡ m
low-joined a (half b c d e f g h i) = refl

-- ---- the count

low_byte : {a : ℕ} → a < 256 → (x : ℕ) → bit_xor a (x % 256) < 256
low_byte {a} h x = xor_lt 8 a (x % 256) h (omega arith)

add_count_half : (t : ℕ) {a : List ℕ} → Half a → Half (add_count t a)
unfolding add_count
add_count_half t (half a b c d e f g h) =
    half (low_byte a (t / 2 ^ 56)) (low_byte b (t / 2 ^ 48)) (low_byte c (t / 2 ^ 40)) (low_byte d (t / 2 ^ 32))
    (low_byte e (t / 2 ^ 24)) (low_byte f (t / 2 ^ 16)) (low_byte g (t / 2 ^ 8)) (low_byte h t)

add_count_twice : (t : ℕ) {a : List ℕ} → Half a → add_count t (add_count t a) ≡ a
unfolding add_count
add_count_twice t (half {a} {b} {c} {d} {e} {f} {g} {h} _ _ _ _ _ _ _ _) =
    λ i. xor_cancel a (t / 2 ^ 56 % 256) i ∷ xor_cancel b (t / 2 ^ 48 % 256) i
    ∷ xor_cancel c (t / 2 ^ 40 % 256) i ∷ xor_cancel d (t / 2 ^ 32 % 256) i
    ∷ xor_cancel e (t / 2 ^ 24 % 256) i ∷ xor_cancel f (t / 2 ^ 16 % 256) i
    ∷ xor_cancel g (t / 2 ^ 8 % 256) i ∷ xor_cancel h (t % 256) i
    ∷ []

-- ---- a block put in its place

module _ (i : ℕ) (b r : List ℕ) (e : length b ≡ 8) (h : i * 8 + 8 ≤ length r) where
  tail-put : drop (i * 8) (with_block i b r) ≡ b ++ drop 8 (drop (i * 8) r)
  tail-put = drop_at (take (i * 8) r) (b ++ drop 8 (drop (i * 8) r)) (i * 8) (length-take-le (i * 8) r (omega arith))

  -- it is read again
  block-put : block_at i (with_block i b r) ≡ b
  block-put = ap (take 8) tail-put ∙ take_at b (drop 8 (drop (i * 8) r)) 8 e

  -- another in its place
  put-put : (c : List ℕ) → with_block i c (with_block i b r) ≡ with_block i c r
  put-put c =
      ap₂ (λ (p q : List ℕ). p ++ (c ++ q)) (take_put (i * 8) 8 r b (omega arith)) (ap (drop 8) tail-put ∙ drop_at b (drop 8 (drop (i * 8) r)) 8 e)

  length_put : length (with_block i b r) ≡ length r
  length_put = same_len_mid (i * 8) 8 r b (e ∙ sym (length-take-le 8 (drop (i * 8) r) (simp length-drop (omega arith))))

bytes_put : (i : ℕ) (b r : List ℕ) → Bytes b → Bytes r → Bytes (with_block i b r)
bytes_put i b r p q =
    bytes_append (take (i * 8) r) (b ++ drop 8 (drop (i * 8) r)) (bytes_take (i * 8) r q)
    (bytes_append b (drop 8 (drop (i * 8) r)) p (bytes_drop 8 (drop (i * 8) r) (bytes_drop (i * 8) r q)))

-- ---- what a step keeps: eight bytes in A, and as many bytes in R as there were

pub record Ready (size : ℕ) (x : Registers) : Type 0 where
  pub first : Half x.0
  pub bytes : Bytes x.1
  pub count : length x.1 ≡ size

module _ (E D : State → State)
    (keepsE : (s : State) → Block s → Block (E s)) (keepsD : (s : State) → Block s → Block (D s))
    (undone : (s : State) → Block s → D (E s) ≡ s) (redone : (s : State) → Block s → E (D s) ≡ s)
    (size : ℕ) where
  module _ (t i : ℕ) (x : Registers) (k : Ready size x) (h : i * 8 + 8 ≤ size) where
    room : i * 8 + 8 ≤ length x.1
    room = let e = k.count in omega arith

    step_ready : Ready size (wrap_step E t i x)
    unfolding wrap_step
    step_ready =
        let m : List ℕ = block_at i x.1 in
        let b = keepsE (joined x.0 m) (joined-block k.first (block_half i x.1 k.bytes room)) in
        record {
          first = add_count_half t (high_half b);
          bytes = bytes_put i (low (E (joined x.0 m))) x.1 (half_bytes (low_half b)) k.bytes;
          count = length_put i (low (E (joined x.0 m))) x.1 refl room ∙ k.count;
        }

    unstep_ready : Ready size (unwrap_step D t i x)
    unfolding unwrap_step
    unstep_ready =
        let m : List ℕ = block_at i x.1 in
        let b = keepsD (joined (add_count t x.0) m) (joined-block (add_count_half t k.first) (block_half i x.1 k.bytes room)) in
        record {
          first = high_half b;
          bytes = bytes_put i (low (D (joined (add_count t x.0) m))) x.1 (half_bytes (low_half b)) k.bytes;
          count = length_put i (low (D (joined (add_count t x.0) m))) x.1 refl room ∙ k.count;
        }

    unstep_step : unwrap_step D t i (wrap_step E t i x) ≡ x
    unfolding wrap_step unwrap_step
    unstep_step =
        let a : List ℕ = x.0 in
        let r : List ℕ = x.1 in
        let m : List ℕ = block_at i r in
        let s : State = E (joined a m) in
        let w : List ℕ = with_block i (low s) r in
        let hm = block_half i r k.bytes room in
        let j = joined-block k.first hm in
        let b = keepsE (joined a m) j in
        let e : D (joined (add_count t (add_count t (high s))) (block_at i w)) ≡ joined a m
        = ap D (ap₂ joined (add_count_twice t (high_half b)) (block-put i (low s) r refl room) ∙ parted b) ∙ undone (joined a m) j in
        registers≡ (ap high e ∙ high-joined m k.first)
        (ap (λ (b : State). with_block i (low b) w) e
        ∙ ap (λ (l : List ℕ). with_block i l w) (low-joined a hm)
        ∙ put-put i (low s) r refl room m
        ∙ put_same (i * 8) 8 r)

    step_unstep : wrap_step E t i (unwrap_step D t i x) ≡ x
    unfolding wrap_step unwrap_step
    step_unstep =
        let a : List ℕ = add_count t x.0 in
        let r : List ℕ = x.1 in
        let m : List ℕ = block_at i r in
        let s : State = D (joined a m) in
        let w : List ℕ = with_block i (low s) r in
        let hm = block_half i r k.bytes room in
        let ha = add_count_half t k.first in
        let j = joined-block ha hm in
        let b = keepsD (joined a m) j in
        let e : E (joined (high s) (block_at i w)) ≡ joined a m
        = ap E (ap (joined (high s)) (block-put i (low s) r refl room) ∙ parted b) ∙ redone (joined a m) j in
        registers≡ (ap (λ (b : State). add_count t (high b)) e ∙ ap (add_count t) (high-joined m ha) ∙ add_count_twice t k.first)
        (ap (λ (b : State). with_block i (low b) w) e
        ∙ ap (λ (l : List ℕ). with_block i l w) (low-joined a hm)
        ∙ put-put i (low s) r refl room m
        ∙ put_same (i * 8) 8 r)

  -- ---- a pass over the first m blocks

  module _ (c : ℕ) where
    pass_ready : (m : ℕ) (x : Registers) → Ready size x → m * 8 ≤ size → Ready size (wrap_pass E c m x)
    unfolding wrap_pass
    pass_ready zero x k h = k
    pass_ready (suc m) x k h = step_ready (c + suc m) m (wrap_pass E c m x) (pass_ready m x k (omega arith)) (omega arith)

    unpass_ready : (m : ℕ) (x : Registers) → Ready size x → m * 8 ≤ size → Ready size (unwrap_pass D c m x)
    unfolding unwrap_pass
    unpass_ready zero x k h = k
    unpass_ready (suc m) x k h =
        unpass_ready m (unwrap_step D (c + suc m) m x) (unstep_ready (c + suc m) m x k (omega arith)) (omega arith)

    unpass_pass : (m : ℕ) (x : Registers) → Ready size x → m * 8 ≤ size → unwrap_pass D c m (wrap_pass E c m x) ≡ x
    unfolding wrap_pass unwrap_pass
    unpass_pass zero x k h = refl
    unpass_pass (suc m) x k h =
        ap (unwrap_pass D c m) (unstep_step (c + suc m) m (wrap_pass E c m x) (pass_ready m x k (omega arith)) (omega arith))
        ∙ unpass_pass m x k (omega arith)

    pass_unpass : (m : ℕ) (x : Registers) → Ready size x → m * 8 ≤ size → wrap_pass E c m (unwrap_pass D c m x) ≡ x
    unfolding wrap_pass unwrap_pass
    pass_unpass zero x k h = refl
    pass_unpass (suc m) x k h =
        ap (wrap_step E (c + suc m) m) (pass_unpass m (unwrap_step D (c + suc m) m x) (unstep_ready (c + suc m) m x k (omega arith)) (omega arith))
        ∙ step_unstep (c + suc m) m x k (omega arith)

  -- ---- passes over n blocks

  module _ (n : ℕ) (h : n * 8 ≤ size) where
    pub passes_ready : (j : ℕ) (x : Registers) → Ready size x → Ready size (wrap_passes E n j x)
    unfolding wrap_passes
    passes_ready zero x k = k
    passes_ready (suc j) x k = pass_ready (n * j) n (wrap_passes E n j x) (passes_ready j x k) h

    pub unpasses_ready : (j : ℕ) (x : Registers) → Ready size x → Ready size (unwrap_passes D n j x)
    unfolding unwrap_passes
    unpasses_ready zero x k = k
    unpasses_ready (suc j) x k = unpasses_ready j (unwrap_pass D (n * j) n x) (unpass_ready (n * j) n x k h)

    pub unpasses_passes : (j : ℕ) (x : Registers) → Ready size x → unwrap_passes D n j (wrap_passes E n j x) ≡ x
    unfolding wrap_passes unwrap_passes
    unpasses_passes zero x k = refl
    unpasses_passes (suc j) x k =
        ap (unwrap_passes D n j) (unpass_pass (n * j) n (wrap_passes E n j x) (passes_ready j x k) h) ∙ unpasses_passes j x k

    pub passes_unpasses : (j : ℕ) (x : Registers) → Ready size x → wrap_passes E n j (unwrap_passes D n j x) ≡ x
    unfolding wrap_passes unwrap_passes
    passes_unpasses zero x k = refl
    passes_unpasses (suc j) x k =
        ap (wrap_pass E (n * j) n) (passes_unpasses j (unwrap_pass D (n * j) n x) (unpass_ready (n * j) n x k h)) ∙ pass_unpass (n * j) n x k h
