-- What the code's operations on stored slots come to in the table that they hold.
use mathlib.Core.Path.{◌≡◌, refl, sym, ap, ap₂, ◌∙◌}
use mathlib.Core.Bool.{Bool, true, false, cond, ◌||◌}
use mathlib.Core.List.{List}
use Prim.Native.Nat.{ℕ, ◌-◌, ◌^◌, ◌<◌}
use native.Mathlib.Omega.{arith}
use lib.Count.{ones, count_trailing_zeros}
use lib.ListN.{length, get_or}
use Rattle.refusal.specs.Checks.{Reason, Check, pass, refuse, bare, unless, ◌and_then◌}
use Rattle.refusal.specs.Answers.{returned, refused, answer_to}
use Rattle.refusal.proofs.Passing.{test_holds}
use Rattle.slot_rules.specs.declared.Slots.{Slots}
use Rattle.std.specs.Prelude.{Some, None}
use Rattle.slot_rules.specs.Table.{lowest_free, live_slot_count, is_live, count_gone, word_gone}
use Rattle.slot_rules.specs.Parents.{Parent, up, goes_with, root_at, root_within, root_near}
use Rattle.slot_rules.specs.Calls.{check47, check48, check49, put_check, drop_answer}
use Rattle.slot_rules.specs.Stored.{Fits, table_of, parent_of, byte_of, freeing, gone_with, drop_stored}
use Rattle.slot_rules.proofs.Stored.{size, room, parent-below}
use Rattle.slots.specs.Internal.{has_bit, up_in, root_in, root_within_two_in, step_from, step_in, reaches_by}
use Rattle.slots.proofs.BitLaws.{count_law, word_same}
use Rattle.slots.proofs.Steps.{table, keys, same_ways}
use Rattle.slots.proofs.Steps

-- a test that fails refuses
test_fails : (t : Bool) (x : Reason) → t ≡ false → unless t x ≡ refuse x
unfolding unless
test_fails t x e = rw e

-- a test that refuses fails
pub test_failed : (t : Bool) (x : Reason) {y : Reason} → refuse y ≡ unless t x → t ≡ false
unfolding unless
test_failed true x e = cc
test_failed false x e = refl

-- no parent passes both tests
pub root_checked : (s : Slots) → pass ≡ (check48 (table_of s) None and_then check49 (table_of s) None)
unfolding check48 check49 unless
root_checked s = refl

-- a parent that is none or a slot's number fits a byte
within_byte : (p : Parent) → ((q : ℕ) → p ≡ Some q → q < 64) → byte_of p < 256
within_byte None h = omega arith
within_byte (Some q) h = let l : q < 64 = h q refl in omega arith

module _ (s : Slots) (f : Fits s) where
  b : s.taken < 2 ^ 64
  b = f.bits

  pub counted : ones s.taken ≡ live_slot_count (table_of s)
  counted = Steps.counted s.taken s.names s.parents b f.names f.parents

  pub lowest : count_trailing_zeros 64 ((2 ^ 64 - 1) - s.taken) ≡ lowest_free (table_of s)
  unfolding table keys
  lowest = Steps.lowest s.taken s.names s.parents b f.names f.parents

  pub live : (n : ℕ) → is_live (table_of s) n ≡ has_bit s.taken n
  unfolding table keys
  live n = Steps.live_of s.taken s.names s.parents b f.names f.parents n

  -- ---- a put

  up_of : (x : Parent) → up (table_of s) x ≡ up_in s x
  unfolding table keys step_from
  up_of None = refl
  up_of (Some n) = Steps.up-below s.taken s.names s.parents b f.names f.parents n ∙ go (has_bit s.taken n)
    where
      go : (c : Bool) → parent_of (cond c (get_or s.parents n 0) 255) ≡ cond c (parent_of (get_or s.parents n 0)) None
      go true = refl
      go false = refl

  root_of : (x : Parent) → root_at (table_of s) x ≡ root_in s x
  unfolding table keys
  root_of None = refl
  root_of (Some n) = Steps.root_below s.taken s.names s.parents b f.names f.parents n

  pub near : (n : ℕ) → root_near (table_of s) (Some n) ≡ root_within_two_in s (Some n)
  unfolding root_within root_within_two_in
  near n =
      let x : Parent = Some n in
      let two = ap (up (table_of s)) (up_of x) ∙ up_of (up_in s x) in
      ap₂ ◌||◌ (root_of x) (ap₂ ◌||◌ (ap (root_at (table_of s)) (up_of x) ∙ root_of (up_in s x)) (ap (root_at (table_of s)) two ∙ root_of (up_in s (up_in s x))))

  -- a parent that is not live, and one that is
  pub not_live : (n : ℕ) → has_bit s.taken n ≡ false → unless (has_bit s.taken n) (bare 48) ≡ (check48 (table_of s) (Some n) and_then check49 (table_of s) (Some n))
  unfolding check48 check49 unless
  not_live n e = simp (live n, e)

  pub is_near : (n : ℕ) → has_bit s.taken n ≡ true
      → unless (root_within_two_in s (Some n)) (bare 49) ≡ (check48 (table_of s) (Some n) and_then check49 (table_of s) (Some n))
  unfolding check48 check49 unless
  is_near n e = simp (live n, e, near n)

  -- where the tests passed, the number of the lowest free slot is below 64, and the parent's byte is one
  pub below : (p : Parent) (n : ℕ) → pass ≡ put_check (table_of s) p → n ≡ lowest_free (table_of s) → n < 64
  below p n e l = rw l (room s f p (sym e))

  pub byte_fits : (p : Parent) → pass ≡ put_check (table_of s) p → byte_of p < 256
  byte_fits p e = within_byte p (parent-below s f p (sym e))

  -- ---- a drop

  -- the word of those that reach a live slot by the steps of this list
  pub gone_live : (n : ℕ) (steps : List ℕ) → is_live (table_of s) n ≡ true → ((j : ℕ) → step_in steps j ≡ step_from s.taken s.parents j)
      → word_gone (reaches_by (step_in steps) n) 0 64 ≡ gone_with s n
  unfolding table keys
  gone_live n steps e g =
      word_same _ _ (λ j. same_ways (step_in steps) (step_from s.taken s.parents) g n j
      ∙ sym (Steps.goes_of s.taken s.names s.parents b f.names f.parents n j (sym (live n) ∙ e))) 0 64

  pub drop-count : (n : ℕ) → is_live (table_of s) n ≡ true → returned (ones (gone_with s n)) ≡ drop_answer (table_of s) n
  unfolding drop_answer check47
  drop-count n e =
      ap returned (count_law (goes_with (table_of s) n) 0 64 ∙ ap (count_gone (goes_with (table_of s) n) 0) (sym (size s f)))
      ∙ sym (ap (λ (d : Check). answer_to d (count_gone (goes_with (table_of s) n) 0 (length (table_of s)))) (test_holds _ _ e))

-- ---- the cases of a drop

module _ (s : Slots) (n : ℕ) where
  pub drop-none : is_live (table_of s) n ≡ false → refused (bare 47) ≡ drop_answer (table_of s) n
  unfolding drop_answer check47
  drop-none e = rw (test_fails (is_live (table_of s) n) (bare 47) e)

  pub drop_frees : (r : Slots) → is_live (table_of s) n ≡ true → r ≡ freeing s (gone_with s n) → r ≡ drop_stored s n
  unfolding drop_stored check47
  drop_frees r e q = rw (test_holds (is_live (table_of s) n) (bare 47) e) q

  pub drop_leaves : is_live (table_of s) n ≡ false → s ≡ drop_stored s n
  unfolding drop_stored check47
  drop_leaves e = rw (test_fails (is_live (table_of s) n) (bare 47) e)
