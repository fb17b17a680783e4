-- The lines written one after the other, from index 2 of the buffer on.
use Prim.Native.Nat.{ℕ, ◌+◌, ◌*◌, ◌≤◌}
use mathlib.Core.Path.{◌≡◌, sym, ap, ◌∙◌}
use mathlib.Core.List.{List, [], ◌∷◌, ◌++◌, append-nil, append_assoc, flatten}
use native.Mathlib.Omega.{arith}
use lib.ListN.{length, take, drop, length-append, length-drop, take-append-drop}
use lib.Seq.{length-take-le, take_at, drop_at, drop-drop}
use Rattle.refusal.specs.Checks.{pass}
use Rattle.key_frame.specs.KeyFrame.{frame_check}
use Rattle.bundle_rules.specs.Bundle.{contents_end, line_of, lines_of, packed}
use Rattle.bundle_rules.proofs.Packing.{sized, all_packed}
use Rattle.bundle_rules.proofs.Written.{id-size}

pub line_size : (offset : ℕ) (b : List ℕ) → frame_check b ≡ pass → length (line_of offset b) ≡ 20
unfolding line_of
line_size offset b p = let n = id-size b (sized b p) in simp length-append (omega arith)

-- `bodies` are all of them, and `left` those whose lines are still to be written, the first of which begins at `offset` of the file
pub record Lined (bodies : List (List ℕ)) (out₀ out : List ℕ) (left : List (List ℕ)) (offset at : ℕ) : Type 0 where
  pub room : at + 20 * length left ≡ contents_end (length bodies)
  pub sum : offset + length (flatten left) ≡ contents_end (length bodies) + length (flatten bodies)
  pub size : length out ≡ length out₀
  pub whole : take 2 out₀ ++ lines_of (contents_end (length bodies)) bodies ≡ take at out ++ lines_of offset left
  pub rest : drop at out ≡ drop at out₀

module _ {bodies : List (List ℕ)} {out₀ out b : List ℕ} {old left : List (List ℕ)} {offset at : ℕ} (e : old ≡ b ∷ left) (l : Lined bodies out₀ out old offset at) where
  -- there is room for the next line, and its body is within the file
  pub lined_room : (at + 20 ≤ contents_end (length bodies)) × (offset + length b ≤ contents_end (length bodies) + length (flatten bodies))
  unfolding flatten
  lined_room =
      let many = ap length e in
      let long : length (flatten old) ≡ length b + length (flatten left) = rw e (length-append b (flatten left)) in
      (omega (arith, l.room), omega (arith, l.sum))

  pub lined_on : {out' : List ℕ} → contents_end (length bodies) ≤ length out₀ → frame_check b ≡ pass
      → out' ≡ take at out ++ (line_of offset b ++ drop (at + 20) out)
      → Lined bodies out₀ out' left (offset + length b) (at + 20)
  unfolding lines_of flatten
  lined_on {out'} h p written =
      let many = ap length e in
      let long : length (flatten old) ≡ length b + length (flatten left) = rw e (length-append b (flatten left)) in
      let line : List ℕ = line_of offset b in
      let n20 = line_size offset b p in
      let t : length (take at out) ≡ at = length-take-le at out (omega (arith, l.room, l.size)) in
      let t20 : length (take at out ++ line) ≡ at + 20 = simp length-append (omega arith) in
      let e' : out' ≡ (take at out ++ line) ++ drop (at + 20) out = written ∙ sym (append_assoc (take at out) line (drop (at + 20) out)) in
      let done : take (at + 20) out' ≡ take at out ++ line = ap (take (at + 20)) e' ∙ take_at (take at out ++ line) (drop (at + 20) out) (at + 20) t20 in
      let after : drop (at + 20) out' ≡ drop (at + 20) out = ap (drop (at + 20)) e' ∙ drop_at (take at out ++ line) (drop (at + 20) out) (at + 20) t20 in
      let same : drop (at + 20) out ≡ drop (at + 20) out₀ = sym (drop-drop 20 at out) ∙ ap (drop 20) l.rest ∙ drop-drop 20 at out₀ in
      let w : take 2 out₀ ++ lines_of (contents_end (length bodies)) bodies ≡ take at out ++ (line ++ lines_of (offset + length b) left) = rw e at l.whole in
      let dl = length-drop (at + 20) out in
      let fits : at + 20 ≤ length out = omega (arith, l.room, l.size) in
      let all : length (take at out ++ line) + length (drop (at + 20) out) ≡ length out = omega arith in
      let ol : length out' ≡ length out = ap length e' ∙ length-append (take at out ++ line) (drop (at + 20) out) ∙ all in
      record {
        room = omega (arith, l.room);
        sum = omega (arith, l.sum);
        size = ol ∙ l.size;
        whole = w ∙ sym (append_assoc (take at out) line (lines_of (offset + length b) left)) ∙ ap (λ (x : List ℕ). x ++ lines_of (offset + length b) left) (sym done);
        rest = after ∙ same;
      }

pub lined_end : {bodies : List (List ℕ)} {out₀ out : List ℕ} {old : List (List ℕ)} {offset at : ℕ} → old ≡ [] → Lined bodies out₀ out old offset at
    → out ≡ take 2 out₀ ++ (lines_of (contents_end (length bodies)) bodies ++ drop (contents_end (length bodies)) out₀)
unfolding lines_of
lined_end {bodies} {out₀} {out} {at = at} e l =
    let m = ap length e in
    let p : at ≡ contents_end (length bodies) = omega (arith, l.room) in
    let w : take 2 out₀ ++ lines_of (contents_end (length bodies)) bodies ≡ take at out = rw e at l.whole ∙ append-nil (take at out) in
    sym (take-append-drop at out) ∙ (λ i. sym w i ++ l.rest i) ∙ rw p (append_assoc (take 2 out₀) (lines_of (contents_end (length bodies)) bodies) (drop (contents_end (length bodies)) out₀))

-- the bytes of packed attributes
pub packed_size : (bytes : List ℕ) → length (flatten (packed bytes)) ≡ length bytes
packed_size bytes = ap length (all_packed bytes)
