-- A hash in progress, over any compression: what absorbing a run of bytes does to it, and that its digest is the standard's hash.
-- A run is taken byte by byte within a block, and block by block from a block's start.
use mathlib.Core.Path.{◌≡◌, refl, sym, ap, ◌∙◌, subst}
use mathlib.Core.Bool.{Bool, true, false, cond}
use mathlib.Core.List.{List, [], ◌∷◌, ◌++◌, append-nil}
use Prim.Native.Nat.{ℕ, zero, suc, ◌+◌, ◌-◌, ◌*◌, ◌/◌, ◌%◌, ◌^◌, ◌<◌, ◌≤◌}
use native.Mathlib.Nat.{mod-add-mod, mod-lt, zero-add}
use native.Mathlib.Decide.{ℕ_discrete}
use native.Mathlib.Omega.{arith}
use borrow.Author.Tests.{eq-eqb, ne_eqb}
use lib.Dec.{eqb, lit<}
use lib.ListN.{length, set, take, drop, replicate, length-append, length-drop, take-append-drop, drop_of_length-le}
use lib.Seq.{sets, sets-eq, drop-drop, length-take-le, take-append-add, drop-append-add}
use Rattle.slices.specs.Numbers.{be64}
use Rattle.fips180.specs.Hash.{padding, padded, blocks_by, hash_by}
use Rattle.fips180.specs.Stream.{Progress, started, started_after, absorb_byte, absorbed_by, finished_by}
use Rattle.fips180.specs.Statements.{StreamIsHash, AfterBlockIsHash}
use Rattle.fips180.specs.Internal.{closing_by}
use Rattle.fips180.proofs.Blocks.{one_block}
use Rattle.fips180.proofs.Padding.{padding-length}

-- an empty block
abbrev pub empty : List ℕ
empty = replicate 64 0

eqb-one : (a : ℕ) → eqb a 63 ≡ eqb (a + 1) 64
eqb-one a = go (ℕ_discrete a 63)
  where
    go : Dec (a ≡ 63) → eqb a 63 ≡ eqb (a + 1) 64
    go (yes e) = eq-eqb a 63 e ∙ sym (eq-eqb (a + 1) 64 (omega arith))
    go (no n) = ne_eqb a 63 n ∙ sym (ne_eqb (a + 1) 64 (λ e. n (omega arith)))

count-more : (a k : ℕ) → ((a + 1) % 2 ^ 64 + suc k) % 2 ^ 64 ≡ (a + suc (suc k)) % 2 ^ 64
count-more a k =
    let e : a + 1 + suc k ≡ a + suc (suc k) = omega arith in
    mod-add-mod (a + 1) (2 ^ 64) (suc k) ∙ ap (λ (n : ℕ). n % 2 ^ 64) e

-- a block that is written over whole
over_written : (d s : List ℕ) → length d ≡ 64 → length s ≡ 64 → sets d 0 s ≡ s
over_written d s ld ls =
    sets-eq s d 0 (omega arith) ∙ ap (λ (t : List ℕ). s ++ t) (drop_of_length-le d {i = 0 + length s} (omega arith)) ∙ append-nil s

next_start : (a : ℕ) → a % 64 ≡ 0 → (a + 64) % 2 ^ 64 % 64 ≡ 0
next_start a h = omega arith

padding_long : (n : ℕ) → 64 ≤ n % 64 + length (padding n)
padding_long n = subst (λ (k : ℕ). 64 ≤ n % 64 + k) (sym (padding-length n)) (numbers n)
  where
    numbers : (n : ℕ) → 64 ≤ n % 64 + suc ((119 - n % 64) % 64 + 8)
    numbers n = omega arith

-- the padding goes by the count modulo 2 ^ 64
padding_mod : (n : ℕ) → padding (n % 2 ^ 64) ≡ padding n
unfolding padding
padding_mod n =
    let a : n % 2 ^ 64 % 64 ≡ n % 64 = omega arith in
    let b : 8 * (n % 2 ^ 64) % 2 ^ 64 ≡ 8 * n % 2 ^ 64 = omega arith in
    λ i. 0x80 ∷ replicate ((119 - a i) % 64) 0 ++ be64 (b i)

module _ (compress : List ℕ → List ℕ → List ℕ) where
  -- absorbing two pieces is absorbing them joined
  pub absorbed_append : (s : Progress) (xs ys : List ℕ) → absorbed_by compress s (xs ++ ys) ≡ absorbed_by compress (absorbed_by compress s xs) ys
  unfolding absorbed_by
  absorbed_append s [] ys = refl
  absorbed_append s (x ∷ xs) ys = absorbed_append (absorb_byte compress s x) xs ys

  -- ---- bytes that the block has room for

  after : Progress → List ℕ → Progress
  after s xs =
      let b : List ℕ = sets s.block (s.count % 64) xs in
      let full : Bool = eqb (s.count % 64 + length xs) 64 in
      record {
        value = cond full (compress s.value b) s.value;
        block = cond full empty b;
        count = (s.count + length xs) % 2 ^ 64;
      }

  within : (xs : List ℕ) (s : Progress) → s.count < 2 ^ 64 → s.count % 64 + length xs ≤ 64 → absorbed_by compress s xs ≡ after s xs
  unfolding absorbed_by after absorb_byte
  within [] s f h =
      let n : eqb (s.count % 64 + 0) 64 ≡ false = ne_eqb (s.count % 64 + 0) 64 (λ e. omega arith) in
      let m : s.count ≡ (s.count + 0) % 2 ^ 64 = omega arith in
      λ i. record { value = cond (sym n i) (compress s.value s.block) s.value; block = cond (sym n i) empty s.block; count = m i }
  within (x ∷ []) s f h =
      let n : eqb (s.count % 64) 63 ≡ eqb (s.count % 64 + 1) 64 = eqb-one (s.count % 64) in
      let b : List ℕ = set s.block (s.count % 64) x in
      λ i. record { value = cond (n i) (compress s.value b) s.value; block = cond (n i) empty b; count = (s.count + 1) % 2 ^ 64 }
  within (x ∷ y ∷ ys) s f h =
      let n : eqb (s.count % 64) 63 ≡ false = ne_eqb (s.count % 64) 63 (λ e. omega arith) in
      let b : List ℕ = set s.block (s.count % 64) x in
      let q : cond (eqb (s.count % 64) 63) (compress s.value b) s.value ≡ s.value = ap (λ (t : Bool). cond t (compress s.value b) s.value) n in
      let r : cond (eqb (s.count % 64) 63) empty b ≡ b = ap (λ (t : Bool). cond t empty b) n in
      let p : (s.count + 1) % 2 ^ 64 % 64 ≡ suc (s.count % 64) = omega arith in
      let l : (s.count + 1) % 2 ^ 64 % 64 + suc (length ys) ≡ s.count % 64 + suc (suc (length ys)) = omega arith in
      let m : ((s.count + 1) % 2 ^ 64 + suc (length ys)) % 2 ^ 64 ≡ (s.count + suc (suc (length ys))) % 2 ^ 64 = count-more s.count (length ys) in
      within (y ∷ ys) (absorb_byte compress s x) (mod-lt (s.count + 1) (lit< tt)) (subst (λ (k : ℕ). k ≤ 64) (sym l) h)
      ∙ (λ i. record {
        value = cond (eqb (l i) 64) (compress (q i) (sets (r i) (p i) (y ∷ ys))) (q i);
        block = cond (eqb (l i) 64) empty (sets (r i) (p i) (y ∷ ys));
        count = m i;
      })

  -- the block stays short of full
  pub part : (s : Progress) (xs : List ℕ) → s.count < 2 ^ 64 → s.count % 64 + length xs < 64
      → absorbed_by compress s xs ≡ record { value = s.value; block = sets s.block (s.count % 64) xs; count = (s.count + length xs) % 2 ^ 64 }
  unfolding after
  part s xs f h =
      let b : List ℕ = sets s.block (s.count % 64) xs in
      let n : eqb (s.count % 64 + length xs) 64 ≡ false = ne_eqb (s.count % 64 + length xs) 64 (λ e. omega arith) in
      within xs s f (omega arith)
      ∙ (λ i. record { value = cond (n i) (compress s.value b) s.value; block = cond (n i) empty b; count = (s.count + length xs) % 2 ^ 64 })

  -- the block is full
  full : (s : Progress) (xs : List ℕ) → s.count < 2 ^ 64 → s.count % 64 + length xs ≡ 64
      → absorbed_by compress s xs ≡ record { value = compress s.value (sets s.block (s.count % 64) xs); block = empty; count = (s.count + length xs) % 2 ^ 64 }
  unfolding after
  full s xs f h =
      let b : List ℕ = sets s.block (s.count % 64) xs in
      let n : eqb (s.count % 64 + length xs) 64 ≡ true = eq-eqb (s.count % 64 + length xs) 64 h in
      within xs s f (omega arith)
      ∙ (λ i. record { value = cond (n i) (compress s.value b) s.value; block = cond (n i) empty b; count = (s.count + length xs) % 2 ^ 64 })

  -- ---- from a block's start

  -- n whole blocks, and r bytes after them
  from_start : (n r : ℕ) (s : Progress) (xs : List ℕ) → s.count < 2 ^ 64 → s.count % 64 ≡ 0 → s.block ≡ empty → r < 64 → length xs ≡ n * 64 + r
      → absorbed_by compress s xs ≡ record { value = blocks_by compress n s.value xs; block = sets empty 0 (drop (n * 64) xs); count = (s.count + length xs) % 2 ^ 64 }
  unfolding blocks_by
  from_start zero r s xs f z e hr l =
      part s xs f (omega arith) ∙ (λ i. record { value = s.value; block = sets (e i) (z i) xs; count = (s.count + length xs) % 2 ^ 64 })
  from_start (suc n) r s xs f z e hr l =
      let lt : length (take 64 xs) ≡ 64 = length-take-le 64 xs (omega arith) in
      let one : sets s.block (s.count % 64) (take 64 xs) ≡ take 64 xs = (λ i. sets (e i) (z i) (take 64 xs)) ∙ over_written empty (take 64 xs) refl lt in
      let t : Progress = record { value = compress s.value (take 64 xs); block = empty; count = (s.count + 64) % 2 ^ 64 } in
      let less : length (drop 64 xs) ≡ n * 64 + r = length-drop 64 xs ∙ rest (length xs) n r l in
      let p : 64 + n * 64 ≡ suc n * 64 = omega arith in
      let q : s.count + 64 + length (drop 64 xs) ≡ s.count + length xs = total s.count (length xs) (length (drop 64 xs)) n r l less in
      ap (absorbed_by compress s) (sym (take-append-drop 64 xs))
      ∙ absorbed_append s (take 64 xs) (drop 64 xs)
      ∙ ap (λ (u : Progress). absorbed_by compress u (drop 64 xs)) (full s (take 64 xs) f (omega arith) ∙ (λ i. record { value = compress s.value (one i); block = empty; count = (s.count + lt i) % 2 ^ 64 }))
      ∙ from_start n r t (drop 64 xs) (mod-lt (s.count + 64) (lit< tt)) (next_start s.count z) refl hr less
      ∙ (λ i. record {
        value = blocks_by compress n (compress s.value (take 64 xs)) (drop 64 xs);
        block = sets empty 0 ((drop-drop (n * 64) 64 xs ∙ ap (λ (j : ℕ). drop j xs) p) i);
        count = (mod-add-mod (s.count + 64) (2 ^ 64) (length (drop 64 xs)) ∙ ap (λ (j : ℕ). j % 2 ^ 64) q) i;
      })
    where
      rest : (x n r : ℕ) → x ≡ suc n * 64 + r → x - 64 ≡ n * 64 + r
      rest x n r e = omega arith

      total : (c x y n r : ℕ) → x ≡ suc n * 64 + r → y ≡ n * 64 + r → c + 64 + y ≡ c + x
      total c x y n r e h = omega arith

  -- the same by division
  pub starting : (s : Progress) (xs : List ℕ) → s.count < 2 ^ 64 → s.count % 64 ≡ 0 → s.block ≡ empty
      → absorbed_by compress s xs ≡ record { value = blocks_by compress (length xs / 64) s.value xs; block = sets empty 0 (drop (length xs / 64 * 64) xs); count = (s.count + length xs) % 2 ^ 64 }
  starting s xs f z e = from_start (length xs / 64) (length xs % 64) s xs f z e (mod-lt (length xs) (lit< tt)) (division (length xs))
    where
      division : (x : ℕ) → x ≡ x / 64 * 64 + x % 64
      division x = omega arith

  -- ---- bytes that fill the block: k of them do, and the others start a block

  module _ (s : Progress) (xs : List ℕ) (k : ℕ) (f : s.count < 2 ^ 64) (ek : s.count % 64 + k ≡ 64) (hk : k ≤ length xs) where
    filled : Progress
    filled = record { value = compress s.value (sets s.block (s.count % 64) (take k xs)); block = empty; count = (s.count + k) % 2 ^ 64 }

    head : absorbed_by compress s (take k xs) ≡ filled
    unfolding filled
    head =
        let l : length (take k xs) ≡ k = length-take-le k xs hk in
        full s (take k xs) f (ap (λ (j : ℕ). s.count % 64 + j) l ∙ ek)
        ∙ (λ i. record { value = compress s.value (sets s.block (s.count % 64) (take k xs)); block = empty; count = (s.count + l i) % 2 ^ 64 })

    pub across : absorbed_by compress s xs ≡
        record {
          value = blocks_by compress (length (drop k xs) / 64) (compress s.value (sets s.block (s.count % 64) (take k xs))) (drop k xs);
          block = sets empty 0 (drop (length (drop k xs) / 64 * 64) (drop k xs));
          count = (s.count + length xs) % 2 ^ 64;
        }
    unfolding filled
    across =
        let q : s.count + k + length (drop k xs) ≡ s.count + length xs = simp length-drop (sum s.count k (length xs) hk) in
        ap (absorbed_by compress s) (sym (take-append-drop k xs))
        ∙ absorbed_append s (take k xs) (drop k xs)
        ∙ ap (λ (u : Progress). absorbed_by compress u (drop k xs)) head
        ∙ starting filled (drop k xs) (mod-lt (s.count + k) (lit< tt)) (aligned s.count k ek) refl
        ∙ (λ i. record {
          value = blocks_by compress (length (drop k xs) / 64) (compress s.value (sets s.block (s.count % 64) (take k xs))) (drop k xs);
          block = sets empty 0 (drop (length (drop k xs) / 64 * 64) (drop k xs));
          count = (mod-add-mod (s.count + k) (2 ^ 64) (length (drop k xs)) ∙ ap (λ (j : ℕ). j % 2 ^ 64) q) i;
        })
      where
        sum : (c k n : ℕ) → k ≤ n → c + k + (n - k) ≡ c + n
        sum c k n h = omega arith

        aligned : (c k : ℕ) → c % 64 + k ≡ 64 → (c + k) % 2 ^ 64 % 64 ≡ 0
        aligned c k e = omega arith

  -- the hash value after bytes that fill the block: that of the bytes in the block and the new ones, joined
  module _ (s : Progress) (xs : List ℕ) (f : s.count < 2 ^ 64) (lb : length s.block ≡ 64) (hx : 64 ≤ s.count % 64 + length xs) where
    held : List ℕ
    held = take (s.count % 64) s.block

    joined : (absorbed_by compress s xs).value ≡ blocks_by compress (length (held ++ xs) / 64) s.value (held ++ xs)
    unfolding held blocks_by
    joined =
        let a : ℕ = s.count % 64 in
        let k : ℕ = 64 - a in
        let ek : a + k ≡ 64 = omega arith in
        let hk : k ≤ length xs = omega arith in
        let lx : length (take a s.block) ≡ a = length-take-le a s.block (omega arith) in
        let lk : length (take k xs) ≡ k = length-take-le k xs hk in
        let e : sets s.block a (take k xs) ≡ take a s.block ++ take k xs =
        sets-eq (take k xs) s.block a (omega arith) ∙ ap (λ (t : List ℕ). take a s.block ++ take k xs ++ t) (drop_of_length-le s.block {i = a + length (take k xs)} (omega arith)) ∙ append-nil (take a s.block ++ take k xs) in
        let seam : length (take a s.block) + k ≡ 64 = ap (λ (j : ℕ). j + k) lx ∙ ek in
        let t : take 64 (take a s.block ++ xs) ≡ take a s.block ++ take k xs = ap (λ (j : ℕ). take j (take a s.block ++ xs)) (sym seam) ∙ take-append-add (take a s.block) xs k in
        let d : drop 64 (take a s.block ++ xs) ≡ drop k xs = ap (λ (j : ℕ). drop j (take a s.block ++ xs)) (sym seam) ∙ drop-append-add (take a s.block) xs k in
        let n : length (take a s.block ++ xs) / 64 ≡ suc (length (drop k xs) / 64) = simp (length-append, length-drop, lx) (one_more a k (length xs) ek hk) in
        ap (λ (u : Progress). u.value) (across s xs k f ek hk)
        ∙ (λ i. blocks_by compress (length (drop k xs) / 64) (compress s.value ((e ∙ sym t) i)) (sym d i))
        ∙ ap (λ (j : ℕ). blocks_by compress j s.value (take a s.block ++ xs)) (sym n)
      where
        one_more : (a k x : ℕ) → a + k ≡ 64 → k ≤ x → (a + x) / 64 ≡ suc ((x - k) / 64)
        one_more a k x e h = omega arith

  -- the digest from the parts of a hash in progress
  pub finished-closing : (written : List ℕ → List ℕ) (s : Progress) → s.count < 2 ^ 64 → length s.block ≡ 64
      → finished_by compress written s ≡ written (closing_by compress s.value (take (s.count % 64) s.block) s.count)
  unfolding finished_by closing_by held
  finished-closing written s f lb = ap written (joined s (padding s.count) f lb (padding_long s.count))

  pub stream_is_hash : (first : List ℕ) (written : List ℕ → List ℕ) → StreamIsHash compress first written
  unfolding finished_by hash_by padded
  stream_is_hash first written m =
      let p : List ℕ = padding (length m) in
      let s : Progress = started first in
      let c : (absorbed_by compress s m).count ≡ length m % 2 ^ 64 = ap (λ (u : Progress). u.count) (starting s m (lit< tt) refl refl) ∙ ap (λ (n : ℕ). n % 2 ^ 64) (zero-add (length m)) in
      ap written
      (ap (λ (n : ℕ). (absorbed_by compress (absorbed_by compress s m) (padding n)).value) c
      ∙ ap (λ (q : List ℕ). (absorbed_by compress (absorbed_by compress s m) q).value) (padding_mod (length m))
      ∙ ap (λ (t : Progress). t.value) (sym (absorbed_append s m p) ∙ starting s (m ++ p) (lit< tt) refl refl))

  -- a block absorbed from the start
  absorbed-block : (first b : List ℕ) → length b ≡ 64 → absorbed_by compress (started first) b ≡ started_after (compress first b)
  absorbed-block first b e =
      let none : drop (length b / 64 * 64) b ≡ [] = drop_of_length-le b {i = length b / 64 * 64} (omega arith) in
      let all : (0 + length b) % 2 ^ 64 ≡ 64 = omega arith in
      starting (started first) b (lit< tt) refl refl ∙ (λ i. record { value = one_block compress first b e i; block = sets empty 0 (none i); count = all i })

  pub after-block_is_hash : (first : List ℕ) (written : List ℕ → List ℕ) → AfterBlockIsHash compress first written
  after-block_is_hash first written b m e = rw (← absorbed-block first b e, ← absorbed_append (started first) b m) (stream_is_hash first written (b ++ m))
