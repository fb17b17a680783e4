-- How often a Key ID stands in a list, and in the part of it that passes a test.
use Prim.Native.Nat.{ℕ, ◌+◌}
use mathlib.Core.Path.{◌≡◌, refl}
use mathlib.Core.Bool.{Bool, true, false, cond, ◌||◌}
use mathlib.Core.List.{List, [], ◌∷◌, ◌++◌}
use native.Mathlib.Omega.{arith}
use Rattle.slices.proofs.Truth.{or_left, or_right}
use Rattle.slices.specs.Same.{same_list}
use Rattle.slices.proofs.Same.{same_equal}
use Rattle.bundle_rules.specs.Bundle.{id_stands, id_repeats}
use Rattle.compare_rules.specs.Statements.{times, keep}

pub times_append : (id : List ℕ) (s t : List (List ℕ)) → times id (s ++ t) ≡ times id s + times id t
unfolding times
times_append id [] t = omega arith
times_append id (x ∷ s) t = let h = times_append id s t in omega arith

pub times-keep : (test : List ℕ → Bool) (id : List ℕ) (ids : List (List ℕ)) → times id (keep test ids) ≡ cond (test id) (times id ids) 0
unfolding times keep
times-keep test id [] = go (test id)
  where
    go : (b : Bool) → ◌≡◌ {A = ℕ} 0 (cond b 0 0)
    go true = refl
    go false = refl
times-keep test id (x ∷ ids) = go (same_list x id) refl (test x) (test id) refl refl (times-keep test id ids)
  where
    go : (s : Bool) → same_list x id ≡ s → (b c : Bool) → test x ≡ b → test id ≡ c → times id (keep test ids) ≡ cond c (times id ids) 0
        → times id (cond b (x ∷ keep test ids) (keep test ids)) ≡ cond c (cond s 1 0 + times id ids) 0
    go true e true true p q h = rw (e, h)
    go true e true false p q h = let same = same_equal x id e in cc
    go true e false true p q h = let same = same_equal x id e in cc
    go true e false false p q h = h
    go false e true true p q h = rw (e, h)
    go false e true false p q h = rw (e, h)
    go false e false true p q h = rw h (omega arith)
    go false e false false p q h = h

times_none : (id : List ℕ) (ids : List (List ℕ)) → id_stands id ids ≡ false → times id ids ≡ 0
unfolding times id_stands
times_none id [] e = refl
times_none id (x ∷ ids) e =
    let h = times_none id ids (or_right (same_list x id) _ e) in
    rw (or_left (same_list x id) _ e, h)

pub times_once : (id : List ℕ) (ids : List (List ℕ)) → id_repeats ids ≡ false → times id ids ≡ cond (id_stands id ids) 1 0
unfolding times id_stands id_repeats
times_once id [] e = refl
times_once id (x ∷ ids) e = go (same_list x id) refl (times_once id ids (or_right (id_stands x ids) _ e))
  where
    go : (s : Bool) → same_list x id ≡ s → times id ids ≡ cond (id_stands id ids) 1 0 → cond s 1 0 + times id ids ≡ cond (s || id_stands id ids) 1 0
    go true q h =
        let none : id_stands id ids ≡ false = rw (same_equal x id q) at (or_left (id_stands x ids) _ e) in
        rw (times_none id ids none)
    go false q h = rw h (omega arith)
