-- A copy into a part of a list: what `copy` leaves of the whole.
use mathlib.Core.Path.{◌≡◌, sym, ap, ◌∙◌}
use mathlib.Core.List.{List, [], ◌++◌, append_assoc, append-nil}
use Prim.Native.Nat.{ℕ, ◌+◌, ◌-◌, ◌≤◌}
use native.Mathlib.Omega.{arith}
use lib.ListN.{length, take, drop, length-drop, drop_of_length-le}
use lib.Seq.{paste, drop-drop, take_all}
use Rattle.slices.proofs.Lists.{rest_drop}

-- s is copied to the start of the part y of d that begins at a
pub copied_part : (d s : List ℕ) (a : ℕ) {y : List ℕ} → y ≡ take (length s) s ++ drop (length s) (take (length d - a) (drop a d))
    → take a d ++ (y ++ drop (length d - a) (drop a d)) ≡ paste d a s (length s)
copied_part d s a {y} e =
    let none : drop (length d - a) (drop a d) ≡ [] = drop_of_length-le (drop a d) {i = length d - a} (omega (arith, length-drop a d)) in
    let after : drop (length s) (take (length d - a) (drop a d)) ≡ drop (a + length s) d = ap (drop (length s)) (rest_drop a d) ∙ drop-drop (length s) a d in
    (λ i. take a d ++ (e i ++ none i))
    ∙ ap (λ (l : List ℕ). take a d ++ l) (append-nil (take (length s) s ++ drop (length s) (take (length d - a) (drop a d))) ∙ ap (λ (l : List ℕ). take (length s) s ++ l) after)
    ∙ sym (append_assoc (take a d) (take (length s) s) (drop (a + length s) d))

-- what `copy` leaves where all of s fits
pub copied_fits : (s d : List ℕ) {y : List ℕ} → length s ≤ length d → y ≡ take (length d) s ++ drop (length s) d → y ≡ take (length s) s ++ drop (length s) d
copied_fits s d h e = e ∙ ap (λ (l : List ℕ). l ++ drop (length s) d) (take_all (length d) s h ∙ sym (take_all (length s) s (omega arith)))
