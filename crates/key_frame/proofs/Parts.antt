-- Bytes put in place one part after the other, each to a part of the buffer that begins where it belongs: laws for those who write attributes and bundles.
use Prim.Native.Nat.{ℕ, ◌+◌, ◌-◌, ◌≤◌}
use mathlib.Core.Path.{◌≡◌, sym, ap, ◌∙◌}
use mathlib.Core.List.{List, ◌++◌, append-nil, append_assoc}
use native.Mathlib.Omega.{arith}
use borrow.Rule.Slice.PartMut.{put_mid}
use lib.ListN.{length, take, drop, length-drop, drop_of_length-le}
use lib.Seq.{take_at, drop_at, drop-drop}
use Rattle.slices.proofs.Lists.{rest_drop, copied_front}

-- a list whose part from a place on is replaced
pub put_from : (at : ℕ) (l z : List ℕ) → put_mid at (length l - at) l z ≡ take at l ++ z
put_from at l z =
    let h : length (drop at l) ≤ length l - at = simp length-drop (omega arith) in
    ap (λ (r : List ℕ). take at l ++ (z ++ r)) (drop_of_length-le (drop at l) h) ∙ ap (λ (r : List ℕ). take at l ++ r) (append-nil z)

-- the part of a list from a place on, after values were copied to its start
pub part_after : (at : ℕ) (l values : List ℕ) {z : List ℕ} → z ≡ take (length values) values ++ drop (length values) (take (length l - at) (drop at l))
    → put_mid at (length l - at) l z ≡ take at l ++ (values ++ drop (at + length values) l)
part_after at l values {z} e =
    let rest : drop (length values) (take (length l - at) (drop at l)) ≡ drop (at + length values) l = ap (drop (length values)) (rest_drop at l) ∙ drop-drop (length values) at l in
    put_from at l z ∙ ap (λ (r : List ℕ). take at l ++ r) (copied_front values _ e ∙ ap (λ (r : List ℕ). values ++ r) rest)

-- one part of n bytes more, where the parts before it are done
pub next_part : (l₀ done part l after : List ℕ) (at n : ℕ) → length done ≡ at → l ≡ done ++ drop at l₀
    → after ≡ take at l ++ (part ++ drop (at + n) l) → after ≡ (done ++ part) ++ drop (at + n) l₀
next_part l₀ done part l after at n h e a =
    let t : take at l ≡ done = ap (take at) e ∙ take_at done (drop at l₀) at h in
    let d : drop (at + n) l ≡ drop (at + n) l₀
    = sym (drop-drop n at l) ∙ ap (drop n) (ap (drop at) e ∙ drop_at done (drop at l₀) at h) ∙ drop-drop n at l₀ in
    a ∙ (λ i. t i ++ (part ++ d i)) ∙ sym (append_assoc done part (drop (at + n) l₀))
