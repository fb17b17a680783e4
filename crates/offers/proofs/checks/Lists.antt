-- Laws of the tests of a list of offers: how the library's search reads, and what is left of the list, from index i on, when a loop goes through it.
use Rattle.std.proofs.Common.{◌≡◌, refl, sym, ap, ◌∙◌, Option, Some, None, Bor, ℕ, ◌+◌, ◌-◌, ◌≤◌, ◌<◌, Bool, true, false, ◌||◌, List, [], ◌∷◌, length, take, drop, nat_eq, eqb, get_or}
use Rattle.std.specs.List.{list_any, slice_get}
use Rattle.std.specs.Option.{option_copied, option_eq}
use native.Mathlib.Numerals.{add-one}
use lib.ListN.{drop_of_length-le}
use lib.Seq.{drop-cons}
use Rattle.slices.proofs.Lists.{rest_drop}
use Rattle.offer_rules.specs.Rfc5448.{stands, repeats, is_first}

pub stands_any : (value : ℕ) (s : List ℕ) → list_any (λ y. nat_eq y value) s ≡ stands value s
unfolding stands
stands_any value [] = refl
stands_any value (x ∷ s) = ap (λ (b : Bool). eqb x value || b) (stands_any value s)

module _ (s : List ℕ) (i : ℕ) (inv : repeats s ≡ repeats (drop i s)) where
  pub repeats_hit : i < length s → stands (get_or s i 0) (take (length s - (i + 1)) (drop (i + 1) s)) ≡ true → true ≡ repeats s
  unfolding repeats
  repeats_hit h e = sym (inv ∙ rw (drop-cons s i 0, rw (rest_drop, add-one) at e))

  pub repeats_miss : i < length s → stands (get_or s i 0) (take (length s - (i + 1)) (drop (i + 1) s)) ≡ false → repeats s ≡ repeats (drop (i + 1) s)
  unfolding repeats
  repeats_miss h e = inv ∙ rw (add-one, drop-cons s i 0, rw (rest_drop, add-one) at e)

  pub repeats_done : length s ≤ i → false ≡ repeats s
  unfolding repeats
  repeats_done h = sym (inv ∙ rw drop_of_length-le)

-- the first of a list, as the library lends it
pub first_lent : (s : List ℕ) (value : Bor ℕ) (first : Option (Bor ℕ)) → option_copied first ≡ slice_get s 0 → option_eq (λ x y. eqb x.now y.now) first (Some value) ≡ is_first value.now s
unfolding is_first
first_lent [] value None e = refl
first_lent [] value (Some x) e = cc
first_lent (y ∷ s) value None e = cc
first_lent (y ∷ s) value (Some x) e = let same : x.now ≡ y = cc in ap (λ (n : ℕ). eqb n value.now) same
