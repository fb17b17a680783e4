-- What is known of a file that passes its tests.
use Prim.Native.Nat.{ℕ, zero, suc, ◌-◌, ◌≤◌}
use mathlib.Core.Path.{◌≡◌, refl, sym, ap, ◌∙◌}
use mathlib.Core.Bool.{true}
use mathlib.Core.List.{List}
use native.Mathlib.Nat.{sub-zero}
use native.Mathlib.Omega.{arith}
use borrow.Author.Tests.{eqb-true}
use lib.Dec.{eqb}
use lib.ListN.{length, take, drop}
use Rattle.refusal.specs.Checks.{pass}
use Rattle.slices.proofs.Truth.{and_left}
use Rattle.slices.proofs.Lists.{rest_drop}
use Rattle.slices.specs.Numbers.{be16_at}
use Rattle.bundle_rules.specs.Bundle.{contents_end, line_at, lines_from, count_in, lines_in, follow, packed, packed_in, bodies_of, frames_check, bundle_check}
use Rattle.bundle_rules.proofs.Packing.{packed_back}
use Rattle.bundle_rules.proofs.Reading.{contents, laid, laid_flatten, laid_frames}
use Rattle.bundle_rules.proofs.FileBack.{length_bodies}
use Rattle.bundle_contents.specs.Walks.{first_with}
use Rattle.bundle_contents.proofs.Inside.{inside_all}
use Rattle.bundle_contents.proofs.Finding.{Sought}

-- the first line's offset is the end of the contents
first_follows : (f : List ℕ) (n end : ℕ) → 1 ≤ n → follow end (lines_from f 0 n) ≡ true → be16_at f 18 ≡ end
unfolding follow lines_from line_at
first_follows f zero end h e = absurd (omega arith)
first_follows f (suc n) end h e = eqb-true (be16_at f 18) end (and_left (eqb (be16_at f 18) end) _ e)

module _ (f : List ℕ) (p : bundle_check f ≡ pass) where
  attributes_start : be16_at f 18 ≡ contents_end (count_in f)
  attributes_start = let t = contents f p in first_follows f (count_in f) (contents_end (count_in f)) t.low t.following

  -- it has a first line
  pub has_line : 22 ≤ length f
  has_line = let t = contents f p in omega (arith, t.low, t.inside)

  pub starts_inside : {at : ℕ} → at ≡ be16_at f 18 → at ≤ length f
  starts_inside e = omega (arith, e, attributes_start, (contents f p).inside)

  -- what follows the contents
  pub attributes_told : {at : ℕ} → at ≡ be16_at f 18 → take (length f - at) (drop at f) ≡ packed_in f
  attributes_told {at} e = rest_drop at f ∙ ap (λ (k : ℕ). drop k f) (e ∙ attributes_start)

  -- are the bodies that its lines name
  pub bodies_packed : packed (packed_in f) ≡ bodies_of f
  bodies_packed = ap packed (sym (laid_flatten (laid f p))) ∙ packed_back (bodies_of f) (laid_frames (laid f p))

  pub frames_pass : frames_check (packed (packed_in f)) ≡ pass
  frames_pass = ap frames_check bodies_packed ∙ laid_frames (laid f p)

  pub bodies_few : length (packed (packed_in f)) ≤ 64
  bodies_few = omega (arith, ap length bodies_packed, length_bodies f, (contents f p).high)

  -- its lines, by their count
  pub lines_few : {n : ℕ} → n ≡ count_in f → n ≤ 64
  lines_few e = omega (arith, e, (contents f p).high)

  pub lines_fit : {n : ℕ} → n ≡ count_in f → contents_end n ≤ length f
  lines_fit e = omega (arith, e, (contents f p).inside)

  -- are those among which a Key ID is looked for
  pub sought_all : (id : List ℕ) {n : ℕ} → n ≡ count_in f → Sought f id (first_with id (bodies_of f)) (lines_from f 0 (n - 0))
  sought_all id e =
      let t = contents f p in
      rw (e, sub-zero (count_in f)) (record { inside = inside_all f (contents_end (count_in f)) (lines_in f) t.following t.ending; pass = t.bodies; same = refl })
