-- A Key ID looked for in the lines of a file: one law for each way on. `old` are the lines that are left before a turn, and `rest` those after it.
use Prim.Native.Nat.{ℕ, ◌+◌, ◌≤◌}
use mathlib.Core.Path.{◌≡◌, sym, ap, ◌∙◌}
use mathlib.Core.Bool.{Bool, true, false, cond}
use mathlib.Core.List.{List, [], ◌∷◌, map}
use lib.ListN.{length}
use Rattle.std.specs.Prelude.{Option, Some, None}
use Rattle.refusal.specs.Checks.{pass, ◌and_then◌}
use Rattle.refusal.proofs.Passing.{before-passed, last-passed, test_passed}
use Rattle.slices.specs.Same.{same_list}
use Rattle.slices.proofs.Same.{same_equal}
use Rattle.key_frame.specs.KeyFrame.{frame_check}
use Rattle.bundle_rules.specs.Bundle.{key_id_in, Line, body_of, check50, bodies_check}
use Rattle.bundle_contents.specs.Internal.{Inside}
use Rattle.bundle_contents.specs.Walks.{first_with}
use Rattle.bundle_contents.proofs.Inside.{inside_first}

-- the lines that are left of a file that passes, when a Key ID is looked for: what is found among all is found among these
pub record Sought (f id : List ℕ) (whole : Option (List ℕ)) (left : List Line) : Type 0 where
  pub inside : Inside f left
  pub pass : bodies_check f left ≡ pass
  pub same : whole ≡ first_with id (map (body_of f) left)

module _ {f id : List ℕ} {whole : Option (List ℕ)} {old rest : List Line} {l : Line} (e : old ≡ l ∷ rest) (s : Sought f id whole old) where
  checked : (frame_check (body_of f l) and_then check50 l.id (body_of f l) and_then bodies_check f rest) ≡ pass
  unfolding bodies_check
  checked = rw e at s.pass

  pub sought_fits : l.offset + l.size ≤ length f
  sought_fits = (inside_first e s.inside).0

  pub sought_frame : frame_check (body_of f l) ≡ pass
  sought_frame = before-passed _ _ (before-passed _ _ checked)

  own_id : key_id_in (body_of f l) ≡ l.id
  own_id = same_equal _ _ (test_passed _ _ (last-passed _ _ (before-passed _ _ checked)))

  one_more : {r t : Bool} → r ≡ same_list l.id id → r ≡ t → whole ≡ cond t (Some (body_of f l)) (first_with id (map (body_of f) rest))
  unfolding first_with
  one_more q p = s.same ∙ rw (e, own_id, ← q, p)

  pub sought_found : {r : Bool} {body : List ℕ} → r ≡ same_list l.id id → r ≡ true → body ≡ body_of f l → whole ≡ Some body
  sought_found q p b = one_more q p ∙ ap Some (sym b)

  pub sought_on : {r : Bool} → r ≡ same_list l.id id → r ≡ false → Sought f id whole rest
  sought_on q p = record { inside = (inside_first e s.inside).1; pass = last-passed _ _ checked; same = one_more q p }

pub sought-none : {f id : List ℕ} {whole : Option (List ℕ)} {old : List Line} → old ≡ [] → Sought f id whole old → whole ≡ None
unfolding first_with
sought-none {f} {id} e s = s.same ∙ ap (λ (lines : List Line). first_with id (map (body_of f) lines)) e
