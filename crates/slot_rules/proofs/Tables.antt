-- Laws of a table of slots, whatever a slot holds.
use mathlib.Core.Path.{◌≡◌, refl, sym, ap, ◌∙◌}
use mathlib.Core.Bool.{Bool, true, false, cond, false≢true}
use mathlib.Core.List.{List, [], ◌∷◌}
use Prim.Native.Nat.{ℕ, zero, suc, ◌+◌, ◌≤◌, ◌<◌}
use native.Mathlib.Omega.{arith}
use lib.ListN.{length, get_or, set, replicate}
use Rattle.slot_rules.specs.Table.{Slot, free, holding, lowest_free, live_slot_count, is_holding, is_live, freed, count_gone, bit}

module _ {X : Type 0} where
  -- a slot taken counts one more
  pub taken_more : (t : List (Slot X)) (x : X) → lowest_free t < length t → live_slot_count (set t (lowest_free t) (holding x)) ≡ suc (live_slot_count t)
  unfolding lowest_free live_slot_count
  taken_more [] x h = absurd (omega arith)
  taken_more (free ∷ t) x h = refl
  taken_more (holding y ∷ t) x h = ap suc (taken_more t x (omega arith))

  -- freed slots that were live are counted once
  pub freed_less : (goes : ℕ → Bool) (at : ℕ) (t : List (Slot X)) → ((i : ℕ) → goes (at + i) ≡ true → is_holding (get_or t i free) ≡ true)
      → live_slot_count (freed goes at t) + count_gone goes at (length t) ≡ live_slot_count t
  unfolding freed count_gone live_slot_count
  freed_less goes at [] h = refl
  freed_less goes at (x ∷ t) h =
      let ih = freed_less goes (suc at) t (λ i e. let q : at + suc i ≡ suc at + i = omega arith in h (suc i) (ap goes q ∙ e)) in
      go x (goes at) (λ e. let q : at + 0 ≡ at = omega arith in h 0 (ap goes q ∙ e)) ih
    where
      go : (x : Slot X) (b : Bool) → (b ≡ true → is_holding x ≡ true)
          → live_slot_count (freed goes (suc at) t) + count_gone goes (suc at) (length t) ≡ live_slot_count t
          → live_slot_count (cond b free x ∷ freed goes (suc at) t) + (bit b + count_gone goes (suc at) (length t)) ≡ live_slot_count (x ∷ t)
      go free true f ih = absurd (false≢true (f refl))
      go free false f ih = omega arith
      go (holding k) true f ih = omega arith
      go (holding k) false f ih = omega arith

  -- what stands in a slot after some went
  pub freed_at : (goes : ℕ → Bool) (at : ℕ) (t : List (Slot X)) (s : ℕ) → get_or (freed goes at t) s free ≡ cond (goes (at + s)) free (get_or t s free)
  unfolding freed
  freed_at goes at [] s = go (goes (at + s))
    where
      go : (b : Bool) → ◌≡◌ {A = Slot X} free (cond b free free)
      go true = refl
      go false = refl
  freed_at goes at (x ∷ t) zero = let e : at + 0 ≡ at = omega arith in ap (λ (i : ℕ). cond (goes i) free x) (sym e)
  freed_at goes at (x ∷ t) (suc s) =
      let e : suc at + s ≡ at + suc s = omega arith in freed_at goes (suc at) t s ∙ ap (λ (i : ℕ). cond (goes i) free (get_or t s free)) e

  -- the lowest free slot is free, and those below it are taken
  pub lowest_none : (t : List (Slot X)) → get_or t (lowest_free t) free ≡ free
  unfolding lowest_free
  lowest_none [] = refl
  lowest_none (free ∷ t) = refl
  lowest_none (holding x ∷ t) = lowest_none t

  pub below_lowest : (t : List (Slot X)) (j : ℕ) → j < lowest_free t → is_live t j ≡ true
  unfolding lowest_free
  below_lowest [] j h = absurd (omega arith)
  below_lowest (free ∷ t) j h = absurd (omega arith)
  below_lowest (holding x ∷ t) zero h = refl
  below_lowest (holding x ∷ t) (suc j) h = below_lowest t j (omega arith)

  -- no slot is free exactly when all are counted
  pub lowest_le : (t : List (Slot X)) → lowest_free t ≤ live_slot_count t
  unfolding lowest_free live_slot_count
  lowest_le [] = omega arith
  lowest_le (free ∷ t) = omega arith
  lowest_le (holding x ∷ t) = let h = lowest_le t in omega arith

  pub live_le : (t : List (Slot X)) → live_slot_count t ≤ length t
  unfolding live_slot_count
  live_le [] = omega arith
  live_le (free ∷ t) = let h = live_le t in omega arith
  live_le (holding x ∷ t) = let h = live_le t in omega arith

  pub full_lowest : (t : List (Slot X)) → live_slot_count t ≡ length t → lowest_free t ≡ length t
  unfolding lowest_free live_slot_count
  full_lowest [] e = refl
  full_lowest (free ∷ t) e = let h = live_le t in absurd (omega arith)
  full_lowest (holding x ∷ t) e = let f : live_slot_count t ≡ length t = omega arith in ap suc (full_lowest t f)

pub none_live : (X : Type 0) (n : ℕ) → live_slot_count (replicate {A = Slot X} n free) ≡ 0
unfolding live_slot_count
none_live X zero = refl
none_live X (suc n) = none_live X n
