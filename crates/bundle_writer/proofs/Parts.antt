-- A line and the file put in place one part after the other.
use Prim.Native.Nat.{ℕ, ◌+◌, ◌*◌, ◌≤◌}
use mathlib.Core.Path.{◌≡◌, refl, sym, ap, ◌∙◌}
use mathlib.Core.List.{List, ◌++◌, append_assoc}
use native.Mathlib.Omega.{arith}
use lib.ListN.{length, take, drop, length-append, length-drop}
use lib.Seq.{length-take-le}
use Rattle.refusal.specs.Checks.{pass}
use Rattle.slices.specs.Numbers.{be16}
use Rattle.key_frame.proofs.Parts.{next_part}
use Rattle.bundle_rules.specs.Bundle.{key_id_in, contents_end, lines_of, file_of, packed, frames_check}
use Rattle.bundle_rules.proofs.Packing.{all_packed}
use Rattle.bundle_rules.proofs.Written.{lines_size}

-- a part that there is room for
placed : (at : ℕ) (part l l' : List ℕ) → (at + length part ≤ length l → l' ≡ take at l ++ (part ++ drop (at + length part) l)) → at + length part ≤ length l → length l' ≡ length l
placed at part l l' e h =
    let t = length-take-le at l (omega arith) in
    let d = length-drop (at + length part) l in
    ap length (e h) ∙ length-append (take at l) (part ++ drop (at + length part) l) ∙ simp length-append (omega arith)

-- a line in three parts
pub line_parts : (at offset size : ℕ) {id o s l₁ l₂ l₃ : List ℕ} (b l₀ : List ℕ) → at + 20 ≤ length l₀ → id ≡ key_id_in b → length id ≡ 16 → o ≡ be16 offset → s ≡ be16 size
    → (at + length id ≤ length l₀ → l₁ ≡ take at l₀ ++ (id ++ drop (at + length id) l₀))
    → (at + 16 + length o ≤ length l₁ → l₂ ≡ take (at + 16) l₁ ++ (o ++ drop (at + 16 + length o) l₁))
    → (at + 18 + length s ≤ length l₂ → l₃ ≡ take (at + 18) l₂ ++ (s ++ drop (at + 18 + length s) l₂))
    → l₃ ≡ take at l₀ ++ ((key_id_in b ++ (be16 offset ++ be16 size)) ++ drop (at + 20) l₀)
line_parts at offset size {id} {o} {s} {l₁} {l₂} {l₃} b l₀ h own hi qo qs e₁ e₂ e₃ =
    let no : length o ≡ 2 = ap length qo in
    let ns : length s ≡ 2 = ap length qs in
    let h₁ : at + length id ≤ length l₀ = omega arith in
    let z₁ = placed at id l₀ l₁ e₁ h₁ in
    let h₂ : at + 16 + length o ≤ length l₁ = omega arith in
    let z₂ = placed (at + 16) o l₁ l₂ e₂ h₂ in
    let h₃ : at + 18 + length s ≤ length l₂ = omega arith in
    let t : length (take at l₀) ≡ at = length-take-le at l₀ (omega arith) in
    let start : List ℕ = take at l₀ in
    let n₁ : length (start ++ id) ≡ at + 16 = simp length-append (omega arith) in
    let n₂ : length ((start ++ id) ++ be16 offset) ≡ at + 18 = simp length-append (omega arith) in
    let s₂ : at + 16 + 2 ≡ at + 18 = omega arith in
    let s₃ : at + 18 + 2 ≡ at + 20 = omega arith in
    let p₁ : l₁ ≡ (start ++ id) ++ drop (at + 16) l₀ = rw hi at (e₁ h₁) ∙ sym (append_assoc start id (drop (at + 16) l₀)) in
    let p₂ = rw s₂ at (next_part l₀ (start ++ id) (be16 offset) l₁ l₂ (at + 16) 2 n₁ p₁ (rw qo at (e₂ h₂))) in
    let p₃ = rw s₃ at (next_part l₀ ((start ++ id) ++ be16 offset) (be16 size) l₂ l₃ (at + 18) 2 n₂ p₂ (rw qs at (e₃ h₃))) in
    rw own at p₃ ∙ simp append_assoc

-- the file in its three parts: the count, the lines, the attributes
pub written_file : (a out₀ out₁ out₂ out₃ two : List ℕ) (n : ℕ) → frames_check (packed a) ≡ pass → length (packed a) ≡ n → two ≡ be16 n
    → out₁ ≡ take 0 out₀ ++ (two ++ drop (0 + length two) out₀)
    → out₂ ≡ take 2 out₁ ++ (lines_of (contents_end n) (packed a) ++ drop (contents_end n) out₁)
    → out₃ ≡ take (contents_end n) out₂ ++ (a ++ drop (contents_end n + length a) out₂)
    → out₃ ≡ file_of (packed a) ++ drop (contents_end n + length a) out₀
unfolding file_of
written_file a out₀ out₁ out₂ out₃ two n c q t e₁ e₂ e₃ =
    let lines : List ℕ = lines_of (contents_end n) (packed a) in
    let s = lines_size (contents_end n) (packed a) c in
    let p₁ : out₁ ≡ be16 n ++ drop 2 out₀ = rw t at e₁ in
    let p₂ = next_part out₀ (be16 n) lines out₁ out₂ 2 (20 * n) refl p₁ e₂ in
    let z : length (be16 n ++ lines) ≡ contents_end n = omega arith in
    let p₃ = next_part out₀ (be16 n ++ lines) a out₂ out₃ (contents_end n) (length a) z p₂ e₃ in
    rw (all_packed a, q) p₃

-- the count's two bytes do not alter the buffer's length
pub count-length : (out₀ out₁ two : List ℕ) (n : ℕ) → two ≡ be16 n → 2 ≤ length out₀ → out₁ ≡ take 0 out₀ ++ (two ++ drop (0 + length two) out₀) → length out₁ ≡ length out₀
count-length out₀ out₁ two n t h e =
    let p : out₁ ≡ be16 n ++ drop 2 out₀ = rw t at e in
    let l = ap length p in
    let d = length-drop 2 out₀ in
    omega arith

-- nor do the lines
pub lines-length : (a out₁ out₂ : List ℕ) {contents : ℕ} → frames_check (packed a) ≡ pass → contents ≡ contents_end (length (packed a)) → contents ≤ length out₁
    → out₂ ≡ take 2 out₁ ++ (lines_of contents (packed a) ++ drop contents out₁) → length out₂ ≡ length out₁
lines-length a out₁ out₂ {contents} c q h e =
    let s = lines_size contents (packed a) c in
    let t = length-take-le 2 out₁ (omega arith) in
    let d = length-drop contents out₁ in
    ap length e ∙ length-append (take 2 out₁) (lines_of contents (packed a) ++ drop contents out₁) ∙ simp length-append (omega arith)
