-- Laws of parts of lists, and of a copy to the start of a list, element by element.
use Prim.Native.Nat.{ℕ, ◌+◌, ◌-◌, ◌<◌, ◌≤◌, min}
use mathlib.Core.Path.{◌≡◌, sym, ap, ◌∙◌}
use mathlib.Core.List.{List, ◌++◌}
use native.Mathlib.Nat.{zero-add, min-eq_left, min-eq_right}
use native.Mathlib.Decide.{dec_lt}
use native.Mathlib.Numerals.{add-one}
use native.Mathlib.Omega.{arith}
use lib.ListN.{length, take, drop, get_or, set, length-drop, drop_of_length-le}
use lib.Seq.{paste-suc, take_all, take-length, drop-length}

module _ {A : Type 0} where
  -- a part from index i to the end, as a loan of it has it
  pub rest_drop : (i : ℕ) (s : List A) → take (length s - i) (drop i s) ≡ drop i s
  rest_drop i s = take_all (length s - i) (drop i s) (simp length-drop (omega arith))

  -- one element more: after j turns the first j elements of s stand at the start of r, and after them what stood in d
  pub copy_turn : (d s : List A) (j : ℕ) (z : A) {r : List A} → r ≡ take j s ++ drop j d → j < length d → j < length s
      → set r j (get_or s j z) ≡ take (j + 1) s ++ drop (j + 1) d
  copy_turn d s j z e hd hs =
      ap (λ (l : List A). set l j (get_or s j z)) e ∙ rw add-one (simp zero-add at (paste-suc d 0 s j z (simp zero-add hd) hs))

  -- all turns: as many elements as the shorter of the two has
  pub copied_all : (d s : List A) (i : ℕ) → i ≡ min (length s) (length d) → take i s ++ drop i d ≡ take (length d) s ++ drop (length s) d
  copied_all d s i e = go (dec_lt (length d) (length s))
    where
      go : Dec (length d < length s) → take i s ++ drop i d ≡ take (length d) s ++ drop (length s) d
      go (yes h) =
          let le : length d ≤ length s = omega arith in
          let n : i ≡ length d = e ∙ min-eq_right le in
          λ j. take (n j) s ++ (ap (λ (k : ℕ). drop k d) n ∙ drop-length d ∙ sym (drop_of_length-le d le)) j
      go (no h) =
          let le : length s ≤ length d = omega arith in
          let n : i ≡ length s = e ∙ min-eq_left le in
          λ j. (ap (λ (k : ℕ). take k s) n ∙ take-length s ∙ sym (take_all (length d) s le)) j ++ drop (n j) d

  -- what the kit's `bytes::copy` leaves: all of s, and after it what stood in d
  pub copied_front : (s d : List A) {r : List A} → r ≡ take (length s) s ++ drop (length s) d → r ≡ s ++ drop (length s) d
  copied_front s d e = e ∙ ap (λ (l : List A). l ++ drop (length s) d) (take-length s)
