-- What the writer answers and leaves, by its tests in their order.
use Prim.Native.Nat.{ℕ, ◌+◌, ◌≤◌}
use mathlib.Core.Path.{◌≡◌, refl, sym, ap, ◌∙◌}
use mathlib.Core.List.{List, ◌++◌}
use native.Mathlib.Omega.{arith}
use mathlib.Core.Bool.{true, false}
use borrow.Author.Tests.{leb-true}
use lib.Dec.{leb}
use lib.ListN.{length, take, drop}
use Rattle.refusal.specs.Checks.{Reason, pass, refuse, bare, unless}
use Rattle.refusal.specs.Answers.{returned, refused}
use Rattle.refusal.proofs.Passing.{within-high, before-passed, last-passed, test_passed, first_refuses, second_decides}
use Rattle.slices.specs.Numbers.{be16}
use Rattle.bundle_rules.specs.Bundle.{contents_end, lines_of, file_of, packed, frames_check, packed_check, write_check, write_answer, write_buffer}
use Rattle.bundle_rules.proofs.Packing.{all_packed}
use Rattle.bundle_rules.proofs.Written.{flatten_size}
use Rattle.bundle_writer.proofs.Parts.{written_file, count-length, lines-length}

-- ---- attributes that pass the tests before the room's

pub frames_of : (a : List ℕ) → packed_check a ≡ pass → frames_check (packed a) ≡ pass
unfolding packed_check
frames_of a e = before-passed _ _ (before-passed _ _ e)

pub count-high : (a : List ℕ) → packed_check a ≡ pass → length (packed a) ≤ 64
unfolding packed_check
count-high a e = within-high 1 64 (length (packed a)) (test_passed _ _ (last-passed _ _ (before-passed _ _ e)))

-- they have at most 16,128 bytes, so no sum is too large
pub bytes_few : (a : List ℕ) → packed_check a ≡ pass → length a ≤ 16128
bytes_few a e =
    let s = flatten_size (packed a) (frames_of a e) in
    let l = ap length (all_packed a) in
    let h = count-high a e in
    omega arith

-- ---- the tests

pub write_early : (a : List ℕ) (room : ℕ) {x : Reason} → packed_check a ≡ refuse x → refuse x ≡ write_check a room
unfolding write_check
write_early a room e = first_refuses _ _ e

module _ (a : List ℕ) (n room : ℕ) (c : packed_check a ≡ pass) (q : n ≡ length (packed a)) where
  pub write_room : leb (contents_end n + length a) room ≡ false → refuse (bare 6) ≡ write_check a room
  unfolding write_check unless
  write_room h = sym (sym (second_decides _ _ c) ∙ rw (← q, h))

  write-passes : leb (contents_end n + length a) room ≡ true → pass ≡ write_check a room
  unfolding write_check unless
  write-passes h = sym (sym (second_decides _ _ c) ∙ rw (← q, h))

-- ---- the answer

pub write_refused : (a out : List ℕ) {x : Reason} → refuse x ≡ write_check a (length out) → (refused x ≡ write_answer a (length out)) × (out ≡ write_buffer a out)
unfolding write_answer write_buffer
write_refused a out e = rw (← e) (refl, refl)

write_done : (a out after : List ℕ) (n : ℕ) → n ≡ length (packed a) → pass ≡ write_check a (length out) → after ≡ file_of (packed a) ++ drop (contents_end n + length a) out
    → (returned (contents_end n + length a) ≡ write_answer a (length out)) × (after ≡ write_buffer a out)
unfolding write_answer write_buffer
write_done a out after n q e l = rw (← e, ← q) (refl, l)

-- the file in its three parts, where `contents` is the end of its contents
pub write_all : (a out₀ : List ℕ) {out₁ out₂ out₃ two : List ℕ} {n contents : ℕ} → contents ≡ contents_end n → packed_check a ≡ pass → n ≡ length (packed a)
    → leb (contents + length a) (length out₀) ≡ true
    → two ≡ be16 n
    → (0 + length two ≤ length out₀ → out₁ ≡ take 0 out₀ ++ (two ++ drop (0 + length two) out₀))
    → out₂ ≡ take 2 out₁ ++ (lines_of contents (packed a) ++ drop contents out₁)
    → (contents + length a ≤ length out₂ → out₃ ≡ take contents out₂ ++ (a ++ drop (contents + length a) out₂))
    → (returned (contents + length a) ≡ write_answer a (length out₀)) × (out₃ ≡ write_buffer a out₀)
write_all a out₀ {out₁} {out₂} {out₃} {two} {n} {contents} q c k h t e₁ e₂ e₃ =
    let fits : contents + length a ≤ length out₀ = leb-true _ _ h in
    let count : out₁ ≡ take 0 out₀ ++ (two ++ drop (0 + length two) out₀) = e₁ (omega (arith, ap length t)) in
    let s₁ = count-length out₀ out₁ two n t (omega arith) count in
    let s₂ : length out₂ ≡ length out₀ = lines-length a out₁ out₂ (frames_of a c) (q ∙ ap contents_end k) (omega arith) e₂ ∙ s₁ in
    let file = written_file a out₀ out₁ out₂ out₃ two n (frames_of a c) (sym k) t count (rw q at e₂) (rw q at (e₃ (omega arith))) in
    rw q (write_done a out₀ out₃ n k (write-passes a n (length out₀) c k (rw q at h)) file)
