-- A file of 17,410 bytes: 64 attributes of 252.
use Prim.Native.Nat.{ℕ, zero, suc, ◌≤◌}
use mathlib.Core.Path.{◌≡◌, refl}
use mathlib.Core.Bool.{false}
use mathlib.Core.List.{List, [], ◌∷◌, map, flatten}
use native.Mathlib.Omega.{arith}
use lib.ListN.{length}
use Rattle.refusal.specs.Checks.{pass, unless, within}
use Rattle.slices.specs.Same.{same_list}
use Rattle.keywrap.specs.Calls.{wrappable}
use Rattle.key_frame.specs.KeyFrame.{fields_in, length_holds, frame_check}
use Rattle.bundle_rules.specs.Bundle.{key_id_in, id_stands, id_repeats, file_of, frames_check}
use Rattle.bundle_rules.specs.Statements.{Largest}
use Rattle.bundle_rules.specs.Cases.{sample}
use Rattle.bundle_rules.proofs.Written.{file_size, file_passes}

unfoldable samples : ℕ → List (List ℕ)
samples zero = []
samples (suc n) = sample n 252 ∷ samples n

many : length (samples 64) ≡ 64
unfolding samples
many = refl

frames : frames_check (samples 64) ≡ pass
unfolding samples frames_check frame_check length_holds wrappable same_list unless within
frames = refl

once : id_repeats (map key_id_in (samples 64)) ≡ false
unfolding samples key_id_in fields_in id_repeats id_stands same_list
once = refl

bytes : length (flatten (samples 64)) ≡ 16128
unfolding samples flatten
bytes = refl

pub largest : Largest
largest =
    let n = many in
    let low : 1 ≤ length (samples 64) = omega arith in
    let high : length (samples 64) ≤ 64 = omega arith in
    let size = file_size (samples 64) frames low high once in
    let b = bytes in
    (file_of (samples 64), file_passes (samples 64) frames low high once, omega arith)
