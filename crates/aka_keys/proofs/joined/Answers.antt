-- The first key fills the first half, and the second one the rest.
use Prim.Native.Nat.{ℕ}
use mathlib.Core.Path.{◌≡◌, refl, sym, ap, ◌∙◌}
use mathlib.Core.List.{List, [], ◌++◌, append-nil}
use native.Mathlib.Omega.{arith}
use lib.ListN.{length, take, drop, length-append, length-drop, drop_of_length-le}
use lib.Seq.{take_all, take-append_seam}
use Rattle.aka_keys.proofs.joined.Goals as goal

both : (first second keys k r : List ℕ) → length first ≡ 16 → length keys ≡ 32 → k ≡ take 32 first ++ drop (length first) keys
    → r ≡ take 16 k ++ (second ++ drop 32 k) → r ≡ first ++ second
both first second keys k r e f g h =
    let rest : List ℕ = drop (length first) keys in
    let start : k ≡ first ++ rest = g ∙ ap (λ (l : List ℕ). l ++ rest) (take_all 32 first (omega (arith, e))) in
    let front : take 16 k ≡ first = ap (take 16) start ∙ ap (λ n. take n (first ++ rest)) (sym e) ∙ take-append_seam first rest in
    let none : drop 32 k ≡ [] = ap (drop 32) start ∙ drop_of_length-le (first ++ rest) {i = 32} (omega (arith, length-append first rest, length-drop (length first) keys)) in
    h ∙ (λ i. front i ++ (second ++ none i)) ∙ ap (λ (l : List ℕ). first ++ l) (append-nil second)

pub returns : goal.returns
returns c = both _ c.args.second.now _ _ _ c.requires.first_len refl c.copy.ensures (rw c.requires.second_len at (c.copy_at.ensures.fits (omega arith)))
