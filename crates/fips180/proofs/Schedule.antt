-- The words of a message schedule, by any rule of the next word: each is what the rule gives by the words before it, and stays.
use mathlib.Core.Path.{◌≡◌, refl, sym, ap, ◌∙◌}
use mathlib.Core.List.{List, [], ◌∷◌, ◌++◌}
use Prim.Native.Nat.{ℕ, zero, suc, ◌<◌}
use native.Mathlib.Decide.{dec_lt}
use native.Mathlib.Omega.{arith}
use lib.ListN.{length, get_or, length-append, get_or-append}
use lib.Seq.{get_or_at}
use Rattle.fips180.specs.Hash.{schedule_by}

module _ (next : List ℕ → ℕ → ℕ) where
  len : (t : ℕ) → length (schedule_by next t) ≡ t
  unfolding schedule_by
  len zero = refl
  len (suc t) = simp length-append (omega (arith, len t))

  -- word t
  pub is : (t : ℕ) → get_or (schedule_by next (suc t)) t 0 ≡ next (schedule_by next t) t
  unfolding schedule_by
  is t = get_or_at (schedule_by next t) (next (schedule_by next t) t) [] 0 t (len t)

  -- words already there stay
  pub stable : (t k : ℕ) → k < t → get_or (schedule_by next t) k 0 ≡ get_or (schedule_by next (suc k)) k 0
  unfolding schedule_by
  stable zero k h = absurd (omega arith)
  stable (suc t) k h = go (stable t k) (dec_lt k t)
    where
      go : (k < t → get_or (schedule_by next t) k 0 ≡ get_or (schedule_by next (suc k)) k 0) → Dec (k < t) → get_or (schedule_by next t ++ (next (schedule_by next t) t ∷ [])) k 0 ≡ get_or (schedule_by next (suc k)) k 0
      go ih (yes l) = get_or-append (schedule_by next t) (next (schedule_by next t) t ∷ []) 0 k (omega (arith, len t)) ∙ ih l
      go ih (no n) =
          let e : k ≡ t = omega arith in
          get_or_at (schedule_by next t) (next (schedule_by next t) t) [] 0 k (len t ∙ sym e) ∙ sym (is t) ∙ ap (λ (j : ℕ). get_or (schedule_by next (suc j)) j 0) (sym e)
