-- A loop that expands into a buffer: its blocks stand there one after another, so each block finds the one before it in the buffer.
-- Over any MAC whose results have 32 bytes.
use Prim.Native.Nat.{ℕ, zero, suc, ◌+◌, ◌-◌, ◌*◌, ◌≤◌}
use mathlib.Core.Path.{◌≡◌, sym, ap, ◌∙◌}
use mathlib.Core.List.{List, [], ◌++◌, append_assoc, append-nil}
use native.Mathlib.Omega.{arith}
use native.Mathlib.Numerals.{add-one}
use lib.ListN.{length, take, drop, length-drop, drop_of_length-le}
use lib.Seq.{length-take-le, take_all, take_at, drop_at, drop-drop, take-append-add, paste}
use Rattle.prf_plus.specs.PrfPlus.{input_after, block, blocks}
use Rattle.prf_plus.proofs.Laws.{block-length, blocks-length}

module _ (mac : List ℕ → List ℕ → List ℕ) (mac-length : (k t : List ℕ) → length (mac k t) ≡ 32) (key text out₀ : List ℕ) where
  -- the buffer with the first i blocks at its start
  whole : (out : List ℕ) (i : ℕ) → out ≡ take (32 * i) (blocks mac key text i) ++ drop (32 * i) out₀ → out ≡ blocks mac key text i ++ drop (32 * i) out₀
  whole out i e = e ∙ rw (take_all (32 * i) (blocks mac key text i) (omega (arith, blocks-length mac mac-length key text i)))

  -- the last block stands before the place of the next
  pub last_block : (out : List ℕ) (i from at : ℕ) → from ≡ 32 * i - 32 → at ≡ 32 * i → out ≡ take at (blocks mac key text i) ++ drop at out₀
      → take (at - from) (drop from out) ≡ block mac key text i
  unfolding block blocks
  last_block out zero from at f a e =
      let none : at - from ≡ 0 = omega arith in
      ap (λ (k : ℕ). take k (drop from out)) none
  last_block out (suc i) from at f a e =
      let bs = blocks mac key text i in
      let b = block mac key text (suc i) in
      let rest = drop (32 * suc i) out₀ in
      let size : at - from ≡ 32 = omega arith in
      let start : from ≡ 32 * i = omega arith in
      let joined : out ≡ bs ++ (b ++ rest) = whole out (suc i) (rw a at e) ∙ append_assoc bs b rest in
      rw (size, start)
      (ap (take 32) (ap (drop (32 * i)) joined ∙ drop_at bs (b ++ rest) (32 * i) (blocks-length mac mac-length key text i))
      ∙ take_at b rest 32 (block-length mac mac-length key text i))

  -- the MAC after the last block is the next block
  pub next_block : (previous r : List ℕ) (i : ℕ) → r ≡ mac key (input_after previous text (i + 1)) → previous ≡ block mac key text i → r ≡ block mac key text (i + 1)
  unfolding block
  next_block previous r i e p = e ∙ rw (add-one, p)

  -- m bytes of the next block are put after i blocks
  pub one_more : (out : List ℕ) (i m : ℕ) → m ≤ 32 → out ≡ take (32 * i) (blocks mac key text i) ++ drop (32 * i) out₀
      → paste out (32 * i) (block mac key text (suc i)) m ≡ take (32 * i + m) (blocks mac key text (suc i)) ++ drop (32 * i + m) out₀
  unfolding blocks
  one_more out i m hm e =
      let bs = blocks mac key text i in
      let b = block mac key text (suc i) in
      let l = blocks-length mac mac-length key text i in
      let joined : out ≡ bs ++ drop (32 * i) out₀ = whole out i e in
      let front : take (32 * i) out ≡ bs = ap (take (32 * i)) joined ∙ take_at bs (drop (32 * i) out₀) (32 * i) l in
      let back : drop (32 * i + m) out ≡ drop (32 * i + m) out₀ = sym (drop-drop m (32 * i) out) ∙ ap (drop m) (ap (drop (32 * i)) joined ∙ drop_at bs (drop (32 * i) out₀) (32 * i) l) ∙ drop-drop m (32 * i) out₀ in
      let more : take (32 * i + m) (bs ++ b) ≡ bs ++ take m b = rw (← l) (take-append-add bs b m) in
      rw (front, back, more)

  -- the same as the loop has it: r, of which there is room for m bytes, is copied to the part y of the buffer that begins at the place of the next block
  pub next_out : (out out' r y : List ℕ) (i m at : ℕ) → at ≡ 32 * i → m ≤ 32 → at + m ≤ length out → out ≡ take at (blocks mac key text i) ++ drop at out₀
      → r ≡ block mac key text (i + 1) → y ≡ take (length (take m (drop at out))) r ++ drop (length r) (take m (drop at out))
      → out' ≡ take at out ++ (y ++ drop m (drop at out)) → out' ≡ take (at + m) (blocks mac key text (i + 1)) ++ drop (at + m) out₀
  next_out out out' r y i m at a hm room e b ey p =
      let whole-r : r ≡ block mac key text (suc i) = b ∙ ap (block mac key text) (add-one i) in
      let size : length r ≡ 32 = ap length whole-r ∙ block-length mac mac-length key text i in
      let m-there : m ≤ length (drop at out) = simp length-drop (omega arith) in
      let part : length (take m (drop at out)) ≡ m = length-take-le m (drop at out) m-there in
      let none : drop (length r) (take m (drop at out)) ≡ [] = drop_of_length-le (take m (drop at out)) (omega (arith, size, part)) in
      let ym : y ≡ take m r = ey ∙ (λ j. take (part j) r ++ none j) ∙ append-nil (take m r) in
      p ∙ (λ j. take at out ++ (ym j ++ drop-drop m at out j)) ∙ sym (append_assoc (take at out) (take m r) (drop (at + m) out))
      ∙ ap (λ (x : List ℕ). paste out at x m) whole-r ∙ rw (add-one, a) (one_more out i m hm (rw a at e))
