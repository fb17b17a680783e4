-- A hash that stands at a block's start and takes a whole message at once, over any compression: the message's whole blocks, and its last bytes x in
-- a block of their own, with the bit 1 and zeros after them.
use mathlib.Core.Path.{◌≡◌, sym, ap, ◌∙◌}
use mathlib.Core.List.{List, ◌∷◌, ◌++◌}
use Prim.Native.Nat.{ℕ, suc, ◌+◌, ◌-◌, ◌*◌, ◌/◌, ◌%◌, ◌^◌, ◌<◌, ◌≤◌}
use native.Mathlib.Nat.{mod-lt, zero-add}
use native.Mathlib.Omega.{arith}
use lib.Dec.{lit<}
use lib.ListN.{length, take, drop, set, replicate, length-append, length-replicate, length-drop, replicate-append-replicate}
use lib.Seq.{sets, sets-eq, set_at, take_at, drop_at}
use Rattle.slices.specs.Numbers.{be64}
use Rattle.slices.proofs.Lists.{rest_drop, copied_front}
use Rattle.fips180.specs.Hash.{blocks_by}
use Rattle.fips180.specs.Stream.{Progress, absorbed_by, finished_by}
use Rattle.fips180.specs.Internal.{closing_by, marked_block}
use Rattle.fips180.proofs.Stream.{empty, starting, finished-closing}
use Rattle.fips180.proofs.Closing.{close-one, close-two}

zeros-after : (a : ℕ) → a < 64 → drop {A = ℕ} a (replicate 64 0) ≡ 0 ∷ replicate (63 - a) 0
zeros-after a h =
    ap (λ (n : ℕ). drop a (replicate n 0)) (sum a h) ∙ sym (ap (drop a) (replicate-append-replicate a (suc (63 - a)) 0))
    ∙ drop_at (replicate a 0) (replicate (suc (63 - a)) 0) a (length-replicate a 0)
  where
    sum : (a : ℕ) → a < 64 → 64 ≡ a + suc (63 - a)
    sum a h = omega arith

-- the bytes x are copied to the start of an empty block, and the bit 1 is set after them
pub marked : (x : List ℕ) (a : ℕ) {b : List ℕ} → length x ≡ a → a < 64 → b ≡ take (length x) x ++ drop (length x) (replicate 64 0) → set b a 0x80 ≡ marked_block x
marked x a l h e =
    let z : drop {A = ℕ} (length x) (replicate 64 0) ≡ 0 ∷ replicate (63 - length x) 0 = zeros-after (length x) (omega arith) in
    ap (λ (y : List ℕ). set y a 0x80) (copied_front x (replicate 64 0) e ∙ ap (λ (y : List ℕ). x ++ y) z) ∙ set_at x 0 (replicate (63 - length x) 0) 0x80 a l

pub marked_length : (x : List ℕ) → length x < 64 → length (marked_block x) ≡ 64
marked_length x h = simp (length-append, length-replicate) (sum (length x) h)
  where
    sum : (a : ℕ) → a < 64 → a + suc (63 - a) ≡ 64
    sum a h = omega arith

-- the bytes after the whole blocks of m
pub rest_length : (m : List ℕ) → length (drop (length m / 64 * 64) m) ≡ length m % 64
rest_length m = length-drop (length m / 64 * 64) m ∙ cut (length m)
  where
    cut : (x : ℕ) → x - x / 64 * 64 ≡ x % 64
    cut x = omega arith

-- these bytes are copied, from the place where the code finds them to begin
pub marked_rest : (m : List ℕ) {b : List ℕ}
    → (let x : List ℕ = take (length m - (length m - length m % 64)) (drop (length m - length m % 64) m) in b ≡ take (length x) x ++ drop (length x) (replicate 64 0))
    → set b (length m % 64) 0x80 ≡ marked_block (drop (length m / 64 * 64) m)
marked_rest m {b} e =
    let x : List ℕ = drop (length m / 64 * 64) m in
    let y : take (length m - (length m - length m % 64)) (drop (length m - length m % 64) m) ≡ x = rest_drop (length m - length m % 64) m ∙ ap (λ (i : ℕ). drop i m) (cut (length m)) in
    let f : b ≡ take (length x) x ++ drop (length x) (replicate 64 0) = e ∙ ap (λ (z : List ℕ). take (length z) z ++ drop (length z) (replicate 64 0)) y in
    marked x (length m % 64) (rest_length m) (mod-lt (length m) (lit< tt)) f
  where
    cut : (x : ℕ) → x - x % 64 ≡ x / 64 * 64
    cut x = omega arith

module _ (compress : List ℕ → List ℕ → List ℕ) where
  -- the last hash value, from that block: one block more, or two
  module _ (h x : List ℕ) (n : ℕ) {b : List ℕ} (lx : length x ≡ n % 64) (eb : b ≡ marked_block x) where
    few : length x < 64
    few = omega (arith, lx)

    lb : length b ≡ 64
    lb = ap length eb ∙ marked_length x few

    held : take (n % 64) b ≡ x
    held = ap (take (n % 64)) eb ∙ take_at x (0x80 ∷ replicate (63 - length x) 0) (n % 64) lx

    own : b ≡ take (n % 64) b ++ (0x80 ∷ replicate (63 - n % 64) 0)
    own = eb ∙ (λ i. sym held i ++ (0x80 ∷ replicate (63 - lx i) 0))

    pub marked-one : {r : List ℕ} → n % 64 < 56 → r ≡ compress h (take 56 b ++ be64 (8 * n % 2 ^ 64)) → r ≡ closing_by compress h x n
    marked-one l e = close-one compress h b n lb own l e ∙ ap (λ (y : List ℕ). closing_by compress h y n) held

    pub marked-two : {g r : List ℕ} → 56 ≤ n % 64 → g ≡ blocks_by compress (length b / 64) h b → r ≡ compress g (replicate 56 0 ++ be64 (8 * n % 2 ^ 64)) → r ≡ closing_by compress h x n
    marked-two l eg e = close-two compress h b n lb own l eg e ∙ ap (λ (y : List ℕ). closing_by compress h y n) held

  -- what a hash at a block's start comes to with a message
  pub at_start : (written : List ℕ → List ℕ) (s : Progress) (m : List ℕ) → s.count < 2 ^ 64 → s.count % 64 ≡ 0 → s.block ≡ empty
      → finished_by compress written (absorbed_by compress s m)
      ≡ written (closing_by compress (blocks_by compress (length m / 64) s.value m) (drop (length m / 64 * 64) m) ((s.count + length m) % 2 ^ 64))
  at_start written s m f z e =
      let x : List ℕ = drop (length m / 64 * 64) m in
      let n : ℕ = (s.count + length m) % 2 ^ 64 in
      let lx : length x ≡ n % 64 = rest_length m ∙ aligned s.count (length m) z in
      let room : 0 + length x ≤ 64 = omega (arith, lx) in
      let eb : sets empty 0 x ≡ x ++ drop (length x) empty = sets-eq x empty 0 room ∙ ap (λ (i : ℕ). x ++ drop i empty) (zero-add (length x)) in
      let b : List ℕ = sets empty 0 x in
      let lb : length b ≡ 64 = ap length eb ∙ simp (length-append, length-drop) (omega (arith, room)) in
      let t : take (n % 64) b ≡ x = ap (take (n % 64)) eb ∙ take_at x (drop (length x) empty) (n % 64) lx in
      ap (finished_by compress written) (starting compress s m f z e)
      ∙ finished-closing compress written (record { value = blocks_by compress (length m / 64) s.value m; block = b; count = n }) (mod-lt (s.count + length m) (lit< tt)) lb
      ∙ ap (λ (y : List ℕ). written (closing_by compress (blocks_by compress (length m / 64) s.value m) y n)) t
    where
      aligned : (c l : ℕ) → c % 64 ≡ 0 → l % 64 ≡ (c + l) % 2 ^ 64 % 64
      aligned c l z = omega arith
