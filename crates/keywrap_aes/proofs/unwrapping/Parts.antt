-- What the code computes, step by step, is what the definitions say. Each lemma is over plain lists and numbers, and its premises are what the callees ensure.
use mathlib.Core.Path.{◌≡◌, sym, ap, ◌∙◌}
use mathlib.Core.List.{List, ◌++◌}
use Prim.Native.Nat.{ℕ, ◌-◌, ◌≤◌}
use native.Mathlib.Omega.{arith}
use lib.ListN.{length, take, drop, length-drop}
use lib.Seq.{take_all, length-take-le}
use Rattle.rfc3394.specs.Rfc3394.{Registers, unwrap_registers, unwrapped_iv, unwrapped_key}
use Rattle.rfc3394.proofs.Steps.{registers≡}
use Rattle.keywrap_aes.specs.Internal.{passes_of}
use Rattle.keywrap_aes.specs.declared.passes.Direction.TheVariants.{Back}
use Rattle.keywrap.specs.Calls.{key_length}
use Rattle.keywrap.proofs.Lengths.{copied_whole}

-- ---- the wrapped bytes unwrapped in the scratch

-- what comes after the first eight bytes
abbrev rest : List ℕ → List ℕ
rest bytes = take (length bytes - 8) (drop 8 bytes)

pub copied_rest : (bytes d r : List ℕ) → length d ≡ key_length bytes → r ≡ take (length d) (rest bytes) ++ drop (length (rest bytes)) d → r ≡ rest bytes
copied_rest bytes d r e h =
    copied_whole (rest bytes) d r (e ∙ sym (length-take-le (length bytes - 8) (drop 8 bytes) (simp length-drop (omega arith)))) h

pub unwrapped_in_scratch : (kek bytes s v a r : List ℕ) → 8 ≤ length bytes → s ≡ rest bytes → v ≡ take 8 bytes
    → a ≡ (passes_of Back kek (v, s)).0 → r ≡ (passes_of Back kek (v, s)).1 → (a ≡ unwrapped_iv kek bytes) × (r ≡ unwrapped_key kek bytes)
unfolding unwrapped_iv unwrapped_key unwrap_registers
unwrapped_in_scratch kek bytes s v a r long es ev ea er =
    let e : s ≡ drop 8 bytes = es ∙ take_all (length bytes - 8) (drop 8 bytes) (simp length-drop (omega arith)) in
    let q : passes_of Back kek (v, s) ≡ passes_of Back kek (take 8 bytes, drop 8 bytes) = ap (passes_of Back kek) (registers≡ ev e) in
    (ea ∙ ap (λ (x : Registers). x.0) q, er ∙ ap (λ (x : Registers). x.1) q)
