-- What a call stores holds the table after it.
use mathlib.Core.Path.{◌≡◌, refl, sym, ap, ◌∙◌}
use mathlib.Core.Bool.{true, false, false≢true}
use mathlib.Core.List.{List, [], ◌∷◌}
use Prim.Native.Nat.{ℕ, zero, suc, ◌≤◌, ◌<◌, ◌^◌}
use native.Mathlib.Decide.{dec_lt}
use native.Mathlib.Omega.{arith}
use borrow.Author.Tests.{ltb-true, ne_eqb}
use lib.Bits.{bit_or}
use lib.Dec.{ltb, eqb}
use lib.ListN.{length, set, get_or-eq_default}
use Rattle.refusal.specs.Checks.{Check, pass, refuse, bare, unless, ◌and_then◌}
use Rattle.refusal.proofs.Passing.{before-passed, last-passed, test_passed}
use Rattle.slot_rules.specs.declared.Name.{Name}
use Rattle.slot_rules.specs.declared.Slots.{Slots}
use Rattle.std.specs.Prelude.{Some, None}
use Rattle.slot_rules.specs.Table.{free, holding, slots_from, lowest_free, is_holding, is_live}
use Rattle.slot_rules.specs.Parents.{Parent, Key, goes_with, parent_live}
use Rattle.slot_rules.specs.Calls.{check46, check47, check48, check49, put_check, put_table, drop_table}
use Rattle.slot_rules.specs.Stored.{Fits, parent_of, byte_of, keys_of, table_of, put_stored, drop_stored}
use Rattle.slot_rules.specs.Statements.{StoredIsTable}
use Rattle.slot_rules.proofs.Words.{length_slots, put_law, freed_law}

-- ---- what the slots hold

pub keys_length : (names : List Name) (parents : List ℕ) → length names ≡ length parents → length (keys_of names parents) ≡ length names
unfolding keys_of
keys_length [] parents e = refl
keys_length (x ∷ names) [] e = absurd (omega arith)
keys_length (x ∷ names) (p ∷ parents) e = ap suc (keys_length names parents (omega arith))

keys_set : (names : List Name) (parents : List ℕ) (i : ℕ) (x : Name) (p : ℕ) → length names ≡ length parents → i < length names
    → keys_of (set names i x) (set parents i p) ≡ set (keys_of names parents) i (record { name = x; parent = parent_of p })
unfolding keys_of
keys_set [] parents i x p e h = absurd (omega arith)
keys_set (y ∷ names) [] i x p e h = absurd (omega arith)
keys_set (y ∷ names) (q ∷ parents) zero x p e h = refl
keys_set (y ∷ names) (q ∷ parents) (suc i) x p e h =
    ap (λ (t : List Key). record { name = y; parent = parent_of q } ∷ t) (keys_set names parents i x p (omega arith) (omega arith))

-- a parent that is none or a slot's number is what its byte holds
byte_back : (p : Parent) → ((q : ℕ) → p ≡ Some q → q < 64) → parent_of (byte_of p) ≡ p
byte_back None h = refl
byte_back (Some q) h =
    let l : q < 64 = h q refl in
    let t : eqb q 255 ≡ false = ne_eqb q 255 (λ (z : q ≡ 255). omega arith) in
    simp t

module _ (s : Slots) (f : Fits s) where
  same : length s.names ≡ length s.parents
  same = f.names ∙ sym f.parents

  keys-size : length (keys_of s.names s.parents) ≡ 64
  keys-size = keys_length s.names s.parents same ∙ f.names

  pub size : length (table_of s) ≡ 64
  size = length_slots (keys_of s.names s.parents) s.taken ∙ keys-size

  -- a live slot is one of the 64
  pub live_below : (n : ℕ) → is_live (table_of s) n ≡ true → n < 64
  live_below n e = go (dec_lt n 64)
    where
      go : Dec (n < 64) → n < 64
      go (yes h) = h
      go (no g) =
          let z = size in
          let past : length (table_of s) ≤ n = omega arith in
          absurd (false≢true (sym (ap is_holding (get_or-eq_default (table_of s) free past)) ∙ e))

  -- ---- a put

  -- 46 asks for a slot below 64
  pub full : check46 (table_of s) ≡ unless (ltb (lowest_free (table_of s)) 64) (bare 46)
  unfolding check46
  full = ap (λ (n : ℕ). unless (ltb (lowest_free (table_of s)) n) (bare 46)) size

  -- where its tests pass, a slot is free, and the parent is none or a slot's number
  module _ (p : Parent) (e : put_check (table_of s) p ≡ pass) where
    pub room : lowest_free (table_of s) < 64
    unfolding put_check
    room = ltb-true _ _ (test_passed _ _ (sym full ∙ last-passed (check48 (table_of s) p and_then check49 (table_of s) p) _ e))

    parent-lives : parent_live (table_of s) p ≡ true
    unfolding put_check check48
    parent-lives =
        test_passed _ _
        (before-passed (check48 (table_of s) p) (check49 (table_of s) p)
        (before-passed (check48 (table_of s) p and_then check49 (table_of s) p) (check46 (table_of s)) e))

    pub parent-below : (q : ℕ) → p ≡ Some q → q < 64
    parent-below q z = live_below q (sym (ap (parent_live (table_of s)) z) ∙ parent-lives)

  put-stored : (x : Name) (p : Parent) → table_of (put_stored s x p) ≡ put_table (table_of s) x p
  unfolding put_stored put_table
  put-stored x p = go (put_check (table_of s) p) refl
    where
      go : (c : Check) → put_check (table_of s) p ≡ c → table_of (put_stored s x p) ≡ put_table (table_of s) x p
      go pass e =
          let i : ℕ = lowest_free (table_of s) in
          let h : lowest_free (table_of s) < 64 = room p e in
          let l = f.names in
          let k = keys-size in
          let inside : lowest_free (table_of s) < length s.names = omega arith in
          let held : lowest_free (table_of s) < length (keys_of s.names s.parents) = omega arith in
          simp e
          (ap (slots_from (bit_or s.taken (2 ^ i))) (keys_set s.names s.parents i x (byte_of p) same inside)
          ∙ put_law (keys_of s.names s.parents) s.taken i (record { name = x; parent = parent_of (byte_of p) }) held
          ∙ ap (λ (q : Parent). set (table_of s) i (holding (record { name = x; parent = q }))) (byte_back p (parent-below p e)))
      go (refuse y) e = simp e

  -- ---- a drop

  drop-stored : (n : ℕ) → table_of (drop_stored s n) ≡ drop_table (table_of s) n
  unfolding drop_stored drop_table
  drop-stored n = go (check47 (table_of s) n) refl
    where
      go : (c : Check) → check47 (table_of s) n ≡ c → table_of (drop_stored s n) ≡ drop_table (table_of s) n
      go pass e = simp e (rw keys-size at (freed_law (goes_with (table_of s) n) (keys_of s.names s.parents) s.taken 0))
      go (refuse y) e = simp e

pub stored_is_table : StoredIsTable
stored_is_table s f = (put-stored s f, drop-stored s f)
