-- What the code computes, step by step, is what the definitions say. Each lemma is over plain lists and numbers, and its premises are what the callees ensure.
use mathlib.Core.Path.{◌≡◌, sym, ap, ap₂, ◌∙◌}
use mathlib.Core.List.{List, ◌++◌, append_assoc}
use Prim.Native.Nat.{ℕ, ◌+◌, ◌≤◌}
use native.Mathlib.Omega.{arith}
use borrow.Rule.Slice.PartMut.{mid_of, put_mid, same_len_mid}
use lib.ListN.{length, take, drop, length-append, length-drop}
use lib.Seq.{take-length, take_at, drop_at, drop-drop, length-take-le}
use Rattle.slices.proofs.Copies.{copied_fits}
use Rattle.rfc3394.specs.Rfc3394.{initial_value, wrap_registers, wrapped}
use Rattle.keywrap_aes.specs.Internal.{passes_of}
use Rattle.keywrap_aes.specs.declared.passes.Direction.TheVariants.{Forward}
use Rattle.keywrap.proofs.Lengths.{copied_whole}

-- ---- the key wrapped in its place

-- from the start of a part that was put back
drop_part : (n k : ℕ) (l z : List ℕ) → n ≤ length l → drop n (put_mid n k l z) ≡ z ++ drop k (drop n l)
drop_part n k l z h = drop_at (take n l) (z ++ drop k (drop n l)) n (length-take-le n l h)

module _ (kek key out : List ℕ) (k : ℕ) (z : List ℕ) (room : length key + 8 ≤ length out) (ek : k ≡ length key)
    (hz : z ≡ take (length (mid_of 8 k out)) key ++ drop (length key) (mid_of 8 k out)) where
  ez : z ≡ key
  ez = copied_whole key (mid_of 8 k out) z (length-take-le k (drop 8 out) (simp length-drop (omega arith)) ∙ ek) hz

  placed : drop 8 (put_mid 8 k out z) ≡ z ++ drop k (drop 8 out)
  placed = drop_part 8 k out z (omega arith)

  z-length : length z ≡ k
  z-length = ap length ez ∙ sym ek

  key-there : mid_of 8 k (put_mid 8 k out z) ≡ key
  key-there = ap (take k) placed ∙ take_at z (drop k (drop 8 out)) k z-length ∙ ez

  pub wrapped_in_place : (a r f : List ℕ) → length a ≡ 8
      → a ≡ (passes_of Forward kek (initial_value, mid_of 8 k (put_mid 8 k out z))).0
      → r ≡ (passes_of Forward kek (initial_value, mid_of 8 k (put_mid 8 k out z))).1
      → f ≡ take (length (put_mid 8 k (put_mid 8 k out z) r)) a ++ drop (length a) (put_mid 8 k (put_mid 8 k out z) r)
      → f ≡ wrapped kek key ++ drop (length key + 8) out
  unfolding wrapped wrap_registers
  wrapped_in_place a r f la ea er ef =
      let w : List ℕ = put_mid 8 k out z in
      let l : 8 ≤ length w = rw (same_len_mid 8 k out z (z-length ∙ sym (length-take-le k (drop 8 out) (simp length-drop (omega arith))))) (omega arith) in
      let e8 : 8 + k ≡ length key + 8 = omega arith in
      let d : drop 8 (put_mid 8 k w r) ≡ r ++ drop (length key + 8) out
      = drop_part 8 k w r l
      ∙ ap (λ (x : List ℕ). r ++ x)
      (ap (drop k) placed ∙ drop_at z (drop k (drop 8 out)) k z-length ∙ drop-drop k 8 out ∙ ap (λ (n : ℕ). drop n out) e8) in
      let fits : length a ≤ length (put_mid 8 k w r) = let s : length (take 8 w) ≡ 8 = length-take-le 8 w l in simp length-append (omega arith) in
      copied_fits a (put_mid 8 k w r) fits ef
      ∙ ap₂ (λ (x y : List ℕ). x ++ y) (take-length a) (ap (λ (n : ℕ). drop n (put_mid 8 k w r)) la ∙ d)
      ∙ sym (append_assoc a r (drop (length key + 8) out))
      ∙ ap (λ (x : List ℕ). x ++ drop (length key + 8) out)
      (ap₂ (λ (x y : List ℕ). x ++ y)
      (ea ∙ ap (λ (l : List ℕ). (passes_of Forward kek (initial_value, l)).0) key-there)
      (er ∙ ap (λ (l : List ℕ). (passes_of Forward kek (initial_value, l)).1) key-there))
