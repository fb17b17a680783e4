-- The name: the first 16 bytes of a hash.
use Prim.Native.Nat.{ℕ, ◌≤◌}
use mathlib.Core.Path.{◌≡◌, ap, ◌∙◌}
use mathlib.Core.List.{List, [], ◌++◌, append-nil}
use native.Mathlib.Omega.{arith}
use lib.ListN.{length, take, drop}
use lib.Seq.{length-take-le}
use Rattle.slices.proofs.Copies.{copied_fits}
use Rattle.slices.specs.Ascii.{ascii}
use Rattle.fips180.specs.Sha256.{sha256}
use Rattle.sha256.proofs.Stream.{sha256-length}
use Rattle.handover_rules.specs.Handover.{r0_name}
use Rattle.handover.proofs.Front.{front_of}

-- what is hashed
abbrev pub name_text : List ℕ → List ℕ → List ℕ → List ℕ
name_text r0 ad spa = r0 ++ (ascii "R0 Key Name" ++ (ad ++ spa))

-- the part of a hash that is a name
name-size : (m : List ℕ) {hash : List ℕ} → hash ≡ sha256 m → length (take 16 hash) ≡ 16
name-size m {hash} h = length-take-le 16 hash (omega (arith, sha256-length m, ap length h))

-- what a call leaves where the name was copied to the start of a buffer whose room was tested
pub name_put : (r0 ad spa buffer : List ℕ) {hash after : List ℕ} → hash ≡ sha256 (r0 ++ (ascii "R0 Key Name" ++ (ad ++ (spa ++ [])))) → 16 ≤ length buffer
    → after ≡ take (length buffer) (take 16 hash) ++ drop (length (take 16 hash)) buffer → after ≡ r0_name r0 ad spa ++ drop 16 buffer
unfolding r0_name
name_put r0 ad spa buffer {hash} h room e =
    let named : hash ≡ sha256 (name_text r0 ad spa) = h ∙ ap (λ (s : List ℕ). sha256 (r0 ++ (ascii "R0 Key Name" ++ (ad ++ s)))) (append-nil spa) in
    let size = name-size (name_text r0 ad spa) named in
    let fits : length (take 16 hash) ≤ length buffer = omega (arith, size) in
    front_of 16 (take 16 hash) buffer size (copied_fits (take 16 hash) buffer fits e) ∙ ap (λ (s : List ℕ). take 16 s ++ drop 16 buffer) named
