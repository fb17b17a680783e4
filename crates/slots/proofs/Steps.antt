-- What the steps on the word of taken slots, their names and their parents' bytes come to in the table.
use mathlib.Core.Path.{◌≡◌, refl, sym, ap, ap₂, ◌∙◌}
use mathlib.Core.Bool.{Bool, true, false, cond, ◌&&◌, ◌||◌, false≢true}
use mathlib.Core.List.{List, [], ◌∷◌}
use Prim.Native.Nat.{ℕ, suc, zero, ◌+◌, ◌-◌, ◌/◌, ◌%◌, ◌^◌, ◌≤◌, ◌<◌}
use native.Mathlib.Decide.{dec_lt}
use native.Mathlib.Nat.{mod-lt, zero-lt-suc}
use native.Mathlib.Omega.{arith}
use borrow.Author.Tests.{lt-ltb, le-ltb, ltb-true, eqb-true, eqb-false, ne_eqb}
use lib.Count.{ones, count_trailing_zeros}
use lib.Dec.{ltb, eqb}
use lib.ListN.{length, get_or, set, get_or-eq_default}
use lib.Seq.{get_or-set_same, get_or-set_other}
use Rattle.std.specs.Prelude.{Some, None}
use Rattle.slices.proofs.Truth.{and_left}
use Rattle.slot_rules.specs.declared.Name.{Name}
use Rattle.slot_rules.specs.Table.{Slot, free, holding, slot_of, slots_from, lowest_free, live_slot_count, is_holding, is_live}
use Rattle.slot_rules.specs.Parents.{Key, parent_in, up, is_slot, reaches, goes_with, is_none, is_root, root_at}
use Rattle.slot_rules.specs.Stored.{parent_of, keys_of}
use Rattle.slots.specs.Internal.{has_bit, step_from, step_in, reaches_by}
use Rattle.slot_rules.proofs.Words.{length_slots}
use Rattle.slot_rules.proofs.Stored.{keys_length}
use Rattle.slots.proofs.BitLaws.{lowest_law, live_law, at_law}

pub below : (w n : ℕ) → has_bit w n ≡ true → n < 64
below w n e = ltb-true n 64 (and_left (ltb n 64) (eqb (w / 2 ^ n % 2) 1) e)

-- ---- what a slot holds

keys_at : (names : List Name) (parents : List ℕ) (s : ℕ) (d : Name) (k : Key) → length names ≡ length parents → s < length names
    → get_or (keys_of names parents) s k ≡ record { name = get_or names s d; parent = parent_of (get_or parents s 0) }
unfolding keys_of
keys_at [] parents s d k e h = absurd (omega arith)
keys_at (x ∷ names) [] s d k e h = absurd (omega arith)
keys_at (x ∷ names) (p ∷ parents) zero d k e h = refl
keys_at (x ∷ names) (p ∷ parents) (suc s) d k e h = keys_at names parents s d k (omega arith) (omega arith)

slot_bit : (k : Key) (d : ℕ) → d < 2 → slot_of d k ≡ cond (eqb d 1) (holding k) free
slot_bit k zero h = refl
slot_bit k (suc zero) h = refl
slot_bit k (suc (suc d)) h = absurd (omega arith)

none_at : (b : ℕ) → is_none (parent_of b) ≡ eqb b 255
none_at b = go (eqb b 255)
  where
    go : (c : Bool) → is_none (cond c None (Some b)) ≡ c
    go true = refl
    go false = refl

slot_at : (n b : ℕ) → n < 64 → is_slot n (parent_of b) ≡ eqb b n
slot_at n b h = go (eqb b 255) refl
  where
    go : (c : Bool) → eqb b 255 ≡ c → is_slot n (cond c None (Some b)) ≡ eqb b n
    go true e = let f : b ≡ 255 = eqb-true b 255 e in let g : (b ≡ n → ⊥) = (λ (q : b ≡ n). omega arith) in sym (ne_eqb b n g)
    go false e = refl

no_name : Name
no_name = record { bytes = [] }

-- from a free slot no step leads to another
free_stays : (w : ℕ) (parents : List ℕ) (n s : ℕ) → has_bit w n ≡ true → has_bit w s ≡ false → reaches_by (step_from w parents) n s ≡ false
unfolding reaches_by step_from
free_stays w parents n s e q =
    let h : n < 64 = below w n e in
    let far : eqb 255 n ≡ false = ne_eqb 255 n (λ (z : 255 ≡ n). omega arith) in
    let other : eqb s n ≡ false = ne_eqb s n (λ (z : s ≡ n). false≢true (sym q ∙ ap (has_bit w) z ∙ e)) in
    simp (other, q, far)

-- of a word of taken slots, 64 names and 64 parents' bytes
module _ (w : ℕ) (names : List Name) (parents : List ℕ) (b : w < 2 ^ 64) (l : length names ≡ 64) (m : length parents ≡ 64) where
  unfoldable pub keys : List Key
  keys = keys_of names parents

  unfoldable pub table : List (Slot Key)
  table = slots_from w keys

  same : length names ≡ length parents
  same = l ∙ sym m

  pub size : length keys ≡ 64
  unfolding keys
  size = keys_length names parents same ∙ l

  bound : w < 2 ^ length keys
  bound = rw size b

  pub counted : ones w ≡ live_slot_count (slots_from w (keys_of names parents))
  unfolding keys
  counted = live_law keys w bound

  key : ℕ → Key
  key s = record { name = get_or names s no_name; parent = parent_of (get_or parents s 0) }

  slot_is : (s : ℕ) → Dec (s < 64) → get_or table s free ≡ cond (has_bit w s) (holding (key s)) free
  unfolding table keys key
  slot_is s (yes h) =
      let i = size in
      let inside : s < length keys = omega arith in
      let near : s < length names = omega arith in
      let test : ltb s 64 ≡ true = lt-ltb s 64 h in
      at_law keys w s (key 0) inside
      ∙ ap (slot_of (w / 2 ^ s % 2)) (keys_at names parents s no_name (key 0) same near)
      ∙ slot_bit (key s) (w / 2 ^ s % 2) (mod-lt (w / 2 ^ s) (zero-lt-suc 1))
      ∙ simp test
  slot_is s (no g) =
      let i = length_slots keys w ∙ size in
      let past : length table ≤ s = omega arith in
      let test : ltb s 64 ≡ false = le-ltb s 64 (omega arith) in
      get_or-eq_default table free past ∙ simp test

  slot-of : (s : ℕ) → get_or table s free ≡ cond (has_bit w s) (holding (key s)) free
  slot-of s = slot_is s (dec_lt s 64)

  pub live_of : (s : ℕ) → is_live table s ≡ has_bit w s
  live_of s = ap is_holding (slot-of s) ∙ go (has_bit w s)
    where
      go : (c : Bool) → is_holding (cond c (holding (key s)) free) ≡ c
      go true = refl
      go false = refl

  pub up-below : (s : ℕ) → up table (Some s) ≡ parent_of (step_from w parents s)
  unfolding step_from key
  up-below s = ap parent_in (slot-of s) ∙ go (has_bit w s)
    where
      go : (c : Bool) → parent_in (cond c (holding (key s)) free) ≡ parent_of (cond c (get_or parents s 0) 255)
      go true = refl
      go false = refl

  up-last : up table None ≡ parent_of (step_from w parents 255)
  unfolding step_from
  up-last = refl

  up_of : (x : ℕ) → up table (parent_of x) ≡ parent_of (step_from w parents x)
  up_of x = go (eqb x 255) refl
    where
      go : (c : Bool) → eqb x 255 ≡ c → up table (cond c None (Some x)) ≡ parent_of (step_from w parents x)
      go true e = up-last ∙ ap (λ (y : ℕ). parent_of (step_from w parents y)) (sym (eqb-true x 255 e))
      go false e = up-below x

  reaches_of : (n s : ℕ) → n < 64 → reaches 3 table n (Some s) ≡ reaches_by (step_from w parents) n s
  unfolding reaches reaches_by
  reaches_of n s h =
      let p = step_from w parents in
      let one : up table (Some s) ≡ parent_of (p s) = up-below s in
      let two : up table (up table (Some s)) ≡ parent_of (p (p s)) = ap (up table) one ∙ up_of (p s) in
      let three : up table (up table (up table (Some s))) ≡ parent_of (p (p (p s))) = ap (up table) two ∙ up_of (p (p s)) in
      ap (λ (c : Bool). eqb s n || c)
      (ap₂ ◌||◌ (ap (is_slot n) one ∙ slot_at n (p s) h)
      (ap₂ ◌||◌ (ap (is_slot n) two ∙ slot_at n (p (p s)) h) (ap (is_slot n) three ∙ slot_at n (p (p (p s))) h)))

  -- what reaches a live slot is live, so that the code need not ask
  pub goes_of : (n s : ℕ) → has_bit w n ≡ true → goes_with table n s ≡ reaches_by (step_from w parents) n s
  unfolding goes_with
  goes_of n s e =
      ap₂ ◌&&◌ (live_of s) (reaches_of n s (below w n e)) ∙ go (has_bit w s) refl
    where
      go : (c : Bool) → has_bit w s ≡ c → (c && reaches_by (step_from w parents) n s) ≡ reaches_by (step_from w parents) n s
      go true q = refl
      go false q = sym (free_stays w parents n s e q)

  pub root_below : (s : ℕ) → root_at table (Some s) ≡ (has_bit w s && eqb (get_or parents s 0) 255)
  unfolding key
  root_below s = ap is_root (slot-of s) ∙ go (has_bit w s)
    where
      go : (c : Bool) → is_root (cond c (holding (key s)) free) ≡ (c && eqb (get_or parents s 0) 255)
      go true = none_at (get_or parents s 0)
      go false = refl

  pub lowest : count_trailing_zeros 64 ((2 ^ 64 - 1) - w) ≡ lowest_free table
  unfolding table
  lowest = rw size at (lowest_law keys w bound)

  pub long : length table ≡ 64
  unfolding table
  long = length_slots keys w ∙ size

-- ---- the steps of all slots in a list

pub same_ways : (g f : ℕ → ℕ) → ((j : ℕ) → g j ≡ f j) → (n s : ℕ) → reaches_by g n s ≡ reaches_by f n s
unfolding reaches_by
same_ways g f e n s =
    let one = e s in
    let two = e (g s) ∙ ap f one in
    let three = e (g (g s)) ∙ ap f two in
    ap (λ (c : Bool). eqb s n || c)
    (ap₂ ◌||◌ (ap (λ (x : ℕ). eqb x n) one) (ap₂ ◌||◌ (ap (λ (x : ℕ). eqb x n) two) (ap (λ (x : ℕ). eqb x n) three)))

-- the list as far as it is filled
abbrev pub Filled : ℕ → List ℕ → ℕ → List ℕ → Type 0
Filled w parents s steps = (j : ℕ) → j < s → get_or steps j 0 ≡ step_from w parents j

pub filled_next : (w : ℕ) (parents steps : List ℕ) (s : ℕ) → s < 64 → length steps ≡ 64 → Filled w parents s steps
    → Filled w parents (s + 1) (set steps s (cond (eqb (w / 2 ^ s % 2) 1) (get_or parents s 0) 255))
unfolding step_from
filled_next w parents steps s h l f j k = go (eqb j s) refl
  where
    p : ℕ
    p = cond (eqb (w / 2 ^ s % 2) 1) (get_or parents s 0) 255

    go : (b : Bool) → eqb j s ≡ b → get_or (set steps s p) j 0 ≡ step_from w parents j
    go true q =
        let inside : s < length steps = omega arith in
        ap (λ (i : ℕ). get_or (set steps s p) i 0) (eqb-true j s q)
        ∙ get_or-set_same steps s p 0 inside
        ∙ sym (ap (step_from w parents) (eqb-true j s q) ∙ simp (lt-ltb s 64 h))
    go false q =
        let other = eqb-false j s q in
        let before : j < s = omega arith in
        get_or-set_other steps s j p 0 other ∙ f j before

-- filled whole, the list has the step of every number
pub filled_whole : (w : ℕ) (parents steps : List ℕ) → Filled w parents 64 steps → (j : ℕ) → step_in steps j ≡ step_from w parents j
unfolding step_from
filled_whole w parents steps f j = go (dec_lt j 64)
  where
    go : Dec (j < 64) → step_in steps j ≡ step_from w parents j
    go (yes h) = ap (λ (b : Bool). cond b (get_or steps j 0) 255) (lt-ltb j 64 h) ∙ f j h
    go (no g) = let past : 64 ≤ j = omega arith in simp (le-ltb j 64 past)
