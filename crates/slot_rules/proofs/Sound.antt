-- Every table that calls make from the empty one is sound: a live slot's parent is none or live, and a root is near.
use mathlib.Core.Path.{◌≡◌, refl, sym, ap, ◌∙◌}
use mathlib.Core.Bool.{Bool, true, false, cond, ◌&&◌, ◌||◌, false≢true}
use mathlib.Core.List.{List, [], ◌∷◌}
use Prim.Native.Nat.{ℕ, zero, suc, ◌+◌, ◌<◌}
use native.Mathlib.Omega.{arith}
use borrow.Author.Tests.{eqb-true, eqb-false, ltb-true}
use lib.Dec.{eqb}
use lib.ListN.{length, get_or, set, replicate}
use lib.Seq.{get_or-set_same, get_or-set_other}
use Rattle.refusal.specs.Checks.{Check, pass, refuse, ◌and_then◌}
use Rattle.refusal.proofs.Passing.{before-passed, last-passed, test_passed}
use Rattle.slot_rules.specs.declared.Name.{Name}
use Rattle.std.specs.Prelude.{Some, None}
use Rattle.slot_rules.specs.Table.{Slot, free, holding, lowest_free, is_holding, is_live, freed}
use Rattle.slot_rules.specs.Parents.{Parent, Key, parent_in, up, is_slot, reaches, goes_with, is_none, is_root, root_at, root_within, parent_live, root_near}
use Rattle.slot_rules.specs.Calls.{check46, check47, check48, check49, put_check, put_table, drop_table}
use Rattle.slot_rules.proofs.Tables.{lowest_none, freed_at}
use Rattle.slot_rules.specs.Statements.{Call, puts, drops, empty, after, after_all, AlwaysSound}

-- ---- truth values

or_left : (a b : Bool) → a ≡ true → (a || b) ≡ true
or_left true b e = refl
or_left false b e = absurd (false≢true e)

or_right : (a b : Bool) → b ≡ true → (a || b) ≡ true
or_right true b e = refl
or_right false b e = e

or_none : (a b : Bool) → (a || b) ≡ false → b ≡ false
or_none true b e = absurd (false≢true (sym e))
or_none false b e = e

-- ---- steps

-- no step leads on from where there is no slot, and a root is where steps end
reaches-none : (t : List (Slot Key)) (n k : ℕ) → reaches k t n None ≡ false
unfolding reaches
reaches-none t n zero = refl
reaches-none t n (suc k) = reaches-none t n k

root_none : (t : List (Slot Key)) (k : ℕ) → root_within k t None ≡ false
unfolding root_within
root_none t zero = refl
root_none t (suc k) = root_none t k

root_ends : (t : List (Slot Key)) (x : Parent) → root_at t x ≡ true → up t x ≡ None
root_ends t None e = refl
root_ends t (Some s) e = go (get_or t s free) e
  where
    stop : (p : Parent) → is_none p ≡ true → p ≡ None
    stop None e = refl
    stop (Some n) e = absurd (false≢true e)

    go : (y : Slot Key) → is_root y ≡ true → parent_in y ≡ None
    go free e = refl
    go (holding k) e = stop k.parent e

reaches_now : (t : List (Slot Key)) (n k : ℕ) (x : Parent) → is_slot n x ≡ true → reaches k t n x ≡ true
unfolding reaches
reaches_now t n zero x e = e
reaches_now t n (suc k) x e = or_left _ _ e

-- where a root is within k steps, nothing is reached in more
no_further : (t : List (Slot Key)) (n j k : ℕ) (x : Parent) → root_within k t x ≡ true → reaches j t n x ≡ true → reaches k t n x ≡ true
unfolding reaches root_within
no_further t n zero k x r e = reaches_now t n k x e
no_further t n (suc j) zero x r e = go (is_slot n x) refl e
  where
    go : (b : Bool) → is_slot n x ≡ b → (b || reaches j t n (up t x)) ≡ true → is_slot n x ≡ true
    go true q f = q
    go false q f = absurd (false≢true (sym (reaches-none t n j) ∙ ap (reaches j t n) (sym (root_ends t x r)) ∙ f))
no_further t n (suc j) (suc k) x r e = go (is_slot n x) refl e (root_at t x) refl r (λ s f. no_further t n j k (up t x) s f)
  where
    go : (b : Bool) → is_slot n x ≡ b → (b || reaches j t n (up t x)) ≡ true → (c : Bool) → root_at t x ≡ c → (c || root_within k t (up t x)) ≡ true
        → (root_within k t (up t x) ≡ true → reaches j t n (up t x) ≡ true → reaches k t n (up t x) ≡ true)
        → (is_slot n x || reaches k t n (up t x)) ≡ true
    go true q f c p g ih = or_left (is_slot n x) (reaches k t n (up t x)) q
    go false q f true p g ih = absurd (false≢true (sym (reaches-none t n j) ∙ ap (reaches j t n) (sym (root_ends t x p)) ∙ f))
    go false q f false p g ih = or_right (is_slot n x) (reaches k t n (up t x)) (ih g f)

-- ---- a drop

module _ (t : List (Slot Key)) (n : ℕ) where
  unfoldable pub rest : List (Slot Key)
  rest = freed (goes_with t n) 0 t

  pub rest_at : (s : ℕ) → get_or rest s free ≡ cond (goes_with t n s) free (get_or t s free)
  unfolding rest
  rest_at s = let e : 0 + s ≡ s = omega arith in freed_at (goes_with t n) 0 t s ∙ ap (λ (i : ℕ). cond (goes_with t n i) free (get_or t s free)) e

  -- what does not come to n, with a root near, stays, and so does its way
  stays : (k s : ℕ) → root_within k t (Some s) ≡ true → reaches k t n (Some s) ≡ false → get_or rest s free ≡ get_or t s free
  unfolding goes_with
  stays k s r e = rest_at s ∙ go (is_live t s) (reaches 3 t n (Some s)) refl
    where
      go : (a b : Bool) → reaches 3 t n (Some s) ≡ b → cond (a && b) free (get_or t s free) ≡ get_or t s free
      go true true f = absurd (false≢true (sym e ∙ no_further t n 3 k (Some s) r f))
      go true false f = refl
      go false b f = refl

  root-now : (x : Parent) → root_within 0 t x ≡ true → reaches 0 t n x ≡ false → root_within 0 rest x ≡ true
  unfolding root_within reaches
  root-now None r e = r
  root-now (Some s) r e = ap is_root (stays 0 s r e) ∙ r

  root-later : (k : ℕ) (x : Parent) → root_within (suc k) t x ≡ true → reaches (suc k) t n x ≡ false
      → (root_within k t (up t x) ≡ true → reaches k t n (up t x) ≡ false → root_within k rest (up t x) ≡ true) → root_within (suc k) rest x ≡ true
  unfolding root_within reaches
  root-later k None r e ih = absurd (false≢true (sym (root_none t k) ∙ r))
  root-later k (Some s) r e ih = go (is_root (get_or t s free)) refl r (stays (suc k) s r e)
    where
      go : (b : Bool) → is_root (get_or t s free) ≡ b → (b || root_within k t (up t (Some s))) ≡ true → get_or rest s free ≡ get_or t s free
          → (is_root (get_or rest s free) || root_within k rest (parent_in (get_or rest s free))) ≡ true
      go true q f same = or_left (is_root (get_or rest s free)) (root_within k rest (parent_in (get_or rest s free))) (ap is_root same ∙ q)
      go false q f same =
          or_right (is_root (get_or rest s free)) (root_within k rest (parent_in (get_or rest s free)))
          (ap (λ (y : Slot Key). root_within k rest (parent_in y)) same ∙ ih f (or_none (eqb s n) (reaches k t n (up t (Some s))) e))

  root-stays : (k : ℕ) (x : Parent) → root_within k t x ≡ true → reaches k t n x ≡ false → root_within k rest x ≡ true
  root-stays zero x r e = root-now x r e
  root-stays (suc k) x r e = root-later k x r e (λ q f. root-stays k (up t x) q f)

Roots : List (Slot Key) → Type 0
Roots t = (s : ℕ) → is_live t s ≡ true → root_within 3 t (Some s) ≡ true

drop-roots : (t : List (Slot Key)) (n : ℕ) → Roots t → Roots (freed (goes_with t n) 0 t)
unfolding Roots goes_with rest
drop-roots t n r s live = go (is_live t s) (reaches 3 t n (Some s)) refl refl (sym (ap is_holding (rest_at t n s)) ∙ live)
  where
    go : (a b : Bool) → is_live t s ≡ a → reaches 3 t n (Some s) ≡ b → is_holding (cond (a && b) free (get_or t s free)) ≡ true
        → root_within 3 (freed (goes_with t n) 0 t) (Some s) ≡ true
    go true true p q f = absurd (false≢true f)
    go true false p q f = root-stays t n 3 (Some s) (r s p) q
    go false b p q f = absurd (false≢true (sym p ∙ f))

-- ---- a put

-- in t, place i is free; u is t with something held there
module _ (t : List (Slot Key)) (i : ℕ) (k : Key) (none : get_or t i free ≡ free) where
  u : List (Slot Key)
  u = set t i (holding k)

  unmoved : (s : ℕ) → (s ≡ i → ⊥) → get_or u s free ≡ get_or t s free
  unfolding u
  unmoved s h = get_or-set_other t i s (holding k) free h

  -- a way to a root does not go through a free slot
  root-kept-now : (x : Parent) → root_at t x ≡ true → root_at u x ≡ true
  root-kept-now None r = r
  root-kept-now (Some s) r = ap is_root (unmoved s (λ (e : s ≡ i). false≢true (sym (ap is_root (ap (λ (j : ℕ). get_or t j free) e ∙ none)) ∙ r))) ∙ r

  up_kept : (k' s : ℕ) → root_within k' t (up t (Some s)) ≡ true → up u (Some s) ≡ up t (Some s)
  up_kept k' s r =
      ap parent_in
      (unmoved s (λ (e : s ≡ i). false≢true
      (sym (root_none t k') ∙ ap (root_within k' t) (sym (ap parent_in (ap (λ (j : ℕ). get_or t j free) e ∙ none))) ∙ r)))

  root-kept-later : (k' : ℕ) (x : Parent) → root_within (suc k') t x ≡ true
      → (root_within k' t (up t x) ≡ true → root_within k' u (up t x) ≡ true) → root_within (suc k') u x ≡ true
  unfolding root_within
  root-kept-later k' None r ih = absurd (false≢true (sym (root_none t k') ∙ r))
  root-kept-later k' (Some s) r ih = go (root_at t (Some s)) refl r
    where
      go : (b : Bool) → root_at t (Some s) ≡ b → (b || root_within k' t (up t (Some s))) ≡ true → (root_at u (Some s) || root_within k' u (up u (Some s))) ≡ true
      go true q f = or_left (root_at u (Some s)) (root_within k' u (up u (Some s))) (root-kept-now (Some s) q)
      go false q f = or_right (root_at u (Some s)) (root_within k' u (up u (Some s))) (ap (root_within k' u) (up_kept k' s f) ∙ ih f)

  root-kept-zero : (x : Parent) → root_within 0 t x ≡ true → root_within 0 u x ≡ true
  unfolding root_within
  root-kept-zero x r = root-kept-now x r

  root_kept : (k' : ℕ) (x : Parent) → root_within k' t x ≡ true → root_within k' u x ≡ true
  root_kept zero x r = root-kept-zero x r
  root_kept (suc k') x r = root-kept-later k' x r (λ q. root_kept k' (up t x) q)

new_root : (t : List (Slot Key)) (i : ℕ) (x : Name) (p : Parent) → get_or t i free ≡ free → i < length t → root_near t p ≡ true
    → root_within 3 (set t i (holding (record { name = x; parent = p }))) (Some i) ≡ true
unfolding root_within u
new_root t i x None none h e = or_left _ _ (ap is_root (get_or-set_same t i (holding (record { name = x; parent = None })) free h))
new_root t i x (Some q) none h e =
    let k : Key = record { name = x; parent = Some q } in
    let here : up (set t i (holding k)) (Some i) ≡ Some q = ap parent_in (get_or-set_same t i (holding k) free h) in
    let near : root_within 2 (set t i (holding k)) (Some q) ≡ true = root_kept t i k none 2 (Some q) e in
    or_right (root_at (set t i (holding k)) (Some i)) (root_within 2 (set t i (holding k)) (up (set t i (holding k)) (Some i)))
    (ap (root_within 2 (set t i (holding k))) here ∙ near)

put_roots : (t : List (Slot Key)) (x : Name) (p : Parent) → Roots t → put_check t p ≡ pass
    → Roots (set t (lowest_free t) (holding (record { name = x; parent = p })))
unfolding Roots put_check check46 check49 u
put_roots t x p r e s live = go (eqb s (lowest_free t)) refl
  where
    go : (b : Bool) → eqb s (lowest_free t) ≡ b → root_within 3 (set t (lowest_free t) (holding (record { name = x; parent = p }))) (Some s) ≡ true
    go true q =
        let h : lowest_free t < length t = ltb-true _ _ (test_passed _ _ (last-passed (check48 t p and_then check49 t p) _ e)) in
        let d : root_near t p ≡ true = test_passed _ _ (last-passed (check48 t p) _ (before-passed (check48 t p and_then check49 t p) _ e)) in
        ap (λ (j : ℕ). root_within 3 (set t (lowest_free t) (holding (record { name = x; parent = p }))) (Some j)) (eqb-true s (lowest_free t) q)
        ∙ new_root t (lowest_free t) x p (lowest_none t) h d
    go false q =
        let k : Key = record { name = x; parent = p } in
        let same : get_or (set t (lowest_free t) (holding k)) s free ≡ get_or t s free = unmoved t (lowest_free t) k (lowest_none t) s (eqb-false s (lowest_free t) q) in
        root_kept t (lowest_free t) k (lowest_none t) 3 (Some s) (r s (sym (ap is_holding same) ∙ live))

-- ---- any calls

after-roots : (t : List (Slot Key)) (c : Call) → Roots t → Roots (after t c)
unfolding put_table drop_table
after-roots t (puts x p) r = go (put_check t p) refl
  where
    go : (c : Check) → put_check t p ≡ c → Roots (put_table t x p)
    go pass e = rw e (put_roots t x p r e)
    go (refuse y) e = rw e r
after-roots t (drops n) r = go (check47 t n) refl
  where
    go : (c : Check) → check47 t n ≡ c → Roots (drop_table t n)
    go pass e = rw e (drop-roots t n r)
    go (refuse y) e = rw e r

all_roots : (t : List (Slot Key)) (calls : List Call) → Roots t → Roots (after_all t calls)
unfolding after_all
all_roots t [] r = r
all_roots t (c ∷ calls) r = all_roots (after t c) calls (after-roots t c r)

none_held : (n s : ℕ) → is_holding (get_or (replicate {A = Slot Key} n free) s free) ≡ false
none_held zero s = refl
none_held (suc n) zero = refl
none_held (suc n) (suc s) = none_held n s

near_live : (t : List (Slot Key)) (k : ℕ) (x : Parent) → root_within k t x ≡ true → parent_live t x ≡ true
unfolding root_within
near_live t k None r = refl
near_live t zero (Some p) r = go (get_or t p free) r
  where
    go : (y : Slot Key) → is_root y ≡ true → is_holding y ≡ true
    go free e = e
    go (holding z) e = refl
near_live t (suc k) (Some p) r = go (get_or t p free) r
  where
    go : (y : Slot Key) → (is_root y || root_within k t (parent_in y)) ≡ true → is_holding y ≡ true
    go free e = sym (root_none t k) ∙ e
    go (holding z) e = refl

parent_live_lem : (t : List (Slot Key)) (s : ℕ) → root_within 3 t (Some s) ≡ true → parent_live t (parent_in (get_or t s free)) ≡ true
unfolding root_within
parent_live_lem t s r = go (root_at t (Some s)) refl r
  where
    go : (b : Bool) → root_at t (Some s) ≡ b → (b || root_within 2 t (up t (Some s))) ≡ true → parent_live t (up t (Some s)) ≡ true
    go true q f = ap (parent_live t) (root_ends t (Some s) q)
    go false q f = near_live t 2 (up t (Some s)) f

pub always_sound : AlwaysSound
unfolding Roots
always_sound calls =
    let r = all_roots empty calls (λ s e. absurd (false≢true (sym (none_held 64 s) ∙ e))) in
    record { parents = (λ s e. parent_live_lem _ s (r s e)); roots = r }
