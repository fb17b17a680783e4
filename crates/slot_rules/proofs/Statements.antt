-- What holds of any calls on slots.
use mathlib.Core.Path.{◌≡◌, refl, sym, ap, ◌∙◌}
use mathlib.Core.Bool.{Bool, true, false, cond}
use mathlib.Core.List.{List, [], ◌∷◌}
use Prim.Native.Nat.{ℕ, ◌+◌, ◌<◌, ◌≤◌}
use native.Mathlib.Omega.{arith}
use borrow.Author.Tests.{eq-eqb, lt-ltb, le-ltb, ltb-true, ltb-false}
use lib.Dec.{ltb}
use lib.ListN.{length, get_or, set, replicate}
use lib.Seq.{get_or-set_same, get_or-set_other}
use Rattle.slices.proofs.Truth.{and_left}
use Rattle.refusal.specs.Checks.{Reason, Check, pass, refuse, bare, unless, ◌and_then◌}
use Rattle.refusal.specs.Answers.{Answer, returned, refused, answer_to, after_check}
use Rattle.refusal.proofs.Passing.{last-passed, test_passed, test_holds}
use Rattle.slot_rules.specs.Table.{Slot, free, holding, lowest_free, live_slot_count, is_holding, is_live, count_gone}
use Rattle.slot_rules.specs.Parents.{Parent, Key, reaches, goes_with, parent_live, root_near}
use Rattle.slot_rules.specs.Calls.{check46, check47, check48, check49, put_check, put_answer, put_table, drop_answer, drop_table}
use Rattle.slot_rules.specs.Statements.{
  Call,
  puts,
  drops,
  empty,
  after,
  after_all,
  one_put,
  gone,
  put_by,
  gone_by,
  accepted,
  went,
  LiveCount,
  PutRefused,
  PutAccepted,
  PutKept,
  DropCounted,
  RefusedStays,
  LowestTaken,
  OthersStay,
  NoSuchSlotExactly,
  DropExactly,
  ZerosAreEmpty,
}
use Rattle.slot_rules.proofs.Words.{empty_law}
use Rattle.slot_rules.proofs.Tables.{taken_more, freed_less, none_live, lowest_none, below_lowest, lowest_le, live_le, full_lowest}
use Rattle.slot_rules.proofs.Sound.{rest, rest_at}

-- ---- the live count

goes_live : (t : List (Slot Key)) (n s : ℕ) → goes_with t n (0 + s) ≡ true → is_holding (get_or t s free) ≡ true
unfolding goes_with
goes_live t n s e =
    let q : 0 + s ≡ s = omega arith in ap (λ (i : ℕ). is_holding (get_or t i free)) (sym q) ∙ and_left _ _ e

room : (t : List (Slot Key)) (p : Parent) → put_check t p ≡ pass → lowest_free t < length t
unfolding put_check check46
room t p e = ltb-true _ _ (test_passed _ _ (last-passed (check48 t p and_then check49 t p) _ e))

step : (t : List (Slot Key)) (c : Call) → live_slot_count (after t c) + gone_by t c ≡ put_by t c + live_slot_count t
unfolding put_table put_answer drop_table drop_answer
step t (puts x p) = go (put_check t p) refl
  where
    go : (c : Check) → put_check t p ≡ c → live_slot_count (put_table t x p) + 0 ≡ one_put (put_answer t p) + live_slot_count t
    go pass e = let h = taken_more t (record { name = x; parent = p }) (room t p e) in simp e (omega arith)
    go (refuse y) e = simp e (omega arith)
step t (drops n) = go (check47 t n) refl
  where
    go : (c : Check) → check47 t n ≡ c → live_slot_count (drop_table t n) + gone (drop_answer t n) ≡ 0 + live_slot_count t
    go pass e = let h = freed_less (goes_with t n) 0 t (λ i q. goes_live t n i q) in simp e (omega arith)
    go (refuse y) e = simp e (omega arith)

any_calls : (t : List (Slot Key)) (calls : List Call) → live_slot_count (after_all t calls) + went t calls ≡ accepted t calls + live_slot_count t
unfolding after_all accepted went
any_calls t [] = omega arith
any_calls t (c ∷ calls) = let h = any_calls (after t c) calls in let s = step t c in omega arith

pub live_count : LiveCount
live_count calls = let h = any_calls empty calls in let z = none_live Key 64 in omega arith

-- ---- an answer, and the tests that it tells of

tests-passed : (c : Check) (n i : ℕ) → answer_to c n ≡ returned i → (c ≡ pass) × (n ≡ i)
tests-passed pass n i e = (refl, cc)
tests-passed (refuse y) n i e = let z : ◌≡◌ {A = ℕ} 0 1 = cc (sym e) in absurd (omega arith)

refused-before : {T : Type 0} (c : Check) (n : ℕ) (y : Reason) (after before : T) → answer_to c n ≡ refused y → after_check c after before ≡ before
refused-before pass n y after before e = let z : ◌≡◌ {A = ℕ} 0 1 = cc (sym e) in absurd (omega arith)
refused-before (refuse x) n y after before e = refl

-- ---- refused exactly then

-- no slot is free exactly when all are counted
full : {X : Type 0} (t : List (Slot X)) → ltb (lowest_free t) (length t) ≡ false → live_slot_count t ≡ length t
full t e = let a = lowest_le t in let b = live_le t in let h : length t ≤ lowest_free t = ltb-false _ _ e in omega arith

not_full : {X : Type 0} (t : List (Slot X)) → live_slot_count t ≡ length t → ltb (lowest_free t) (length t) ≡ false
not_full t e = let f = full_lowest t e in let h : length t ≤ lowest_free t = omega arith in le-ltb _ _ h

-- the answer of a put, by its three tests in their order
said : (a b c : Bool) → ℕ → Answer
said a b c n = answer_to (unless a (bare 48) and_then unless b (bare 49) and_then unless c (bare 46)) n

said_48 : (a b c : Bool) (n : ℕ) → said a b c n ≡ refused (bare 48) → a ≡ false
unfolding said unless
said_48 true true true n e = let z : ◌≡◌ {A = ℕ} 0 1 = cc (sym e) in absurd (omega arith)
said_48 true true false n e = let z : ◌≡◌ {A = ℕ} 46 48 = cc in absurd (omega arith)
said_48 true false c n e = let z : ◌≡◌ {A = ℕ} 49 48 = cc in absurd (omega arith)
said_48 false b c n e = refl

said_49 : (a b c : Bool) (n : ℕ) → said a b c n ≡ refused (bare 49) → (a ≡ true) × (b ≡ false)
unfolding said unless
said_49 true true true n e = let z : ◌≡◌ {A = ℕ} 0 1 = cc (sym e) in absurd (omega arith)
said_49 true true false n e = let z : ◌≡◌ {A = ℕ} 46 49 = cc in absurd (omega arith)
said_49 true false c n e = (refl, refl)
said_49 false b c n e = let z : ◌≡◌ {A = ℕ} 48 49 = cc in absurd (omega arith)

said_46 : (a b c : Bool) (n : ℕ) → said a b c n ≡ refused (bare 46) → (a ≡ true) × (b ≡ true) × (c ≡ false)
unfolding said unless
said_46 true true true n e = let z : ◌≡◌ {A = ℕ} 0 1 = cc (sym e) in absurd (omega arith)
said_46 true true false n e = (refl, refl, refl)
said_46 true false c n e = let z : ◌≡◌ {A = ℕ} 49 46 = cc in absurd (omega arith)
said_46 false b c n e = let z : ◌≡◌ {A = ℕ} 48 46 = cc in absurd (omega arith)

said_wrote : (a b c : Bool) (n i : ℕ) → said a b c n ≡ returned i → (c ≡ true) × (n ≡ i)
unfolding said unless
said_wrote true true true n i e = (refl, cc)
said_wrote true true false n i e = let z : ◌≡◌ {A = ℕ} 0 1 = cc (sym e) in absurd (omega arith)
said_wrote true false c n i e = let z : ◌≡◌ {A = ℕ} 0 1 = cc (sym e) in absurd (omega arith)
said_wrote false b c n i e = let z : ◌≡◌ {A = ℕ} 0 1 = cc (sym e) in absurd (omega arith)

pub put_refused : PutRefused
unfolding put_answer put_check check46 check48 check49 said unless
put_refused t p =
    let a = parent_live t p in
    let b = root_near t p in
    let c = ltb (lowest_free t) (length t) in
    let n = lowest_free t in (
      said_48 a b c n,
      λ e. rw e,
      said_49 a b c n,
      λ e f. rw e (rw f),
      λ e. let h = said_46 a b c n e in (h.0, h.1, full t h.2),
      λ e f q. rw e (rw f (rw (not_full t q))),
    )

-- a slot is free where not all are counted
free_left : {X : Type 0} (t : List (Slot X)) → live_slot_count t < length t → ltb (lowest_free t) (length t) ≡ true
free_left t h = let a = lowest_le t in let b : lowest_free t < length t = omega arith in lt-ltb _ _ b

pub put_accepted : PutAccepted
unfolding put_answer put_check check46 check48 check49 unless
put_accepted t p e f h = rw e (rw f (rw (free_left t h)))

pub no_such_slot_exactly : NoSuchSlotExactly
unfolding drop_answer check47 unless
no_such_slot_exactly t n = (go (is_live t n) refl, λ e. simp e)
  where
    go : (b : Bool) → is_live t n ≡ b → drop_answer t n ≡ refused (bare 47) → is_live t n ≡ false
    go true e f = let z : ◌≡◌ {A = ℕ} 0 1 = cc (sym (rw e at f)) in absurd (omega arith)
    go false e f = e

-- ---- the slot that a put takes

pub lowest_taken : LowestTaken
unfolding put_answer put_check check46 check48 check49 said
lowest_taken t p i e =
    let h = said_wrote (parent_live t p) (root_near t p) (ltb (lowest_free t) (length t)) (lowest_free t) i e in
    let inside : lowest_free t < length t = ltb-true _ _ h.0 in
    (rw h.1 at inside, rw h.1 at (ap is_holding (lowest_none t)), λ j g. below_lowest t j (rw h.1 g))

pub put_kept : PutKept
unfolding put_table put_answer
put_kept t x p i e =
    let k : Key = record { name = x; parent = p } in
    let h = tests-passed (put_check t p) (lowest_free t) i e in
    ap (λ (c : Check). get_or (after_check c (set t (lowest_free t) (holding k)) t) i free) h.0
    ∙ ap (λ (j : ℕ). get_or (set t (lowest_free t) (holding k)) j free) (sym h.1)
    ∙ get_or-set_same t (lowest_free t) (holding k) free (room t p h.0)

-- ---- nothing else changes

pub others_stay : OthersStay
unfolding put_table
others_stay t x p j h = go (put_check t p) refl
  where
    go : (c : Check) → put_check t p ≡ c → get_or (put_table t x p) j free ≡ get_or t j free
    go pass e = simp e (get_or-set_other t (lowest_free t) j (holding (record { name = x; parent = p })) free h)
    go (refuse y) e = simp e

pub refused_stays : RefusedStays
unfolding put_table put_answer drop_table drop_answer
refused_stays t = (
  λ x p y e. refused-before (put_check t p) (lowest_free t) y _ t e,
  λ n y e. refused-before (check47 t n) (count_gone (goes_with t n) 0 (length t)) y _ t e,
)

pub drop-counted : DropCounted
unfolding drop_table drop_answer check47
drop-counted t n live = (
  rw (test_holds (is_live t n) (bare 47) live),
  rw (test_holds (is_live t n) (bare 47) live) (freed_less (goes_with t n) 0 t (λ i q. goes_live t n i q)),
)

pub drop_exactly : DropExactly
unfolding drop_table check47 goes_with reaches rest
drop_exactly t n live = (itself, λ s e. at s true e, λ s e. at s false e)
  where
    passes : check47 t n ≡ pass
    passes = test_holds _ _ live

    itself : goes_with t n n ≡ true
    itself = simp (live, eq-eqb n n refl)

    at : (s : ℕ) (b : Bool) → goes_with t n s ≡ b → get_or (drop_table t n) s free ≡ cond b free (get_or t s free)
    at s b e = simp passes (rest_at t n s ∙ ap (λ (x : Bool). cond x free (get_or t s free)) e)

pub zeros_are_empty : ZerosAreEmpty
zeros_are_empty X held l = empty_law held ∙ ap (λ (n : ℕ). replicate n free) l
