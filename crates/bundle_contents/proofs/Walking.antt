-- Lines and Key IDs walked from the first on: one law for each way on in the loops. `old` are those that are left before a turn, and `rest` those after it.
use Prim.Native.Nat.{ℕ, ◌+◌, ◌-◌}
use mathlib.Core.Path.{◌≡◌, sym, ap, ◌∙◌}
use mathlib.Core.Bool.{Bool, true, false, ◌||◌}
use mathlib.Core.List.{List, [], ◌∷◌}
use native.Mathlib.Omega.{arith}
use borrow.Author.Tests.{eq-eqb, ne_eqb}
use lib.ListN.{take, drop}
use Rattle.refusal.specs.Checks.{Reason, Check, pass, refuse, bare, unless, ◌and_then◌}
use Rattle.refusal.proofs.Passing.{first_refuses, second_decides}
use Rattle.slices.specs.Same.{same_list}
use Rattle.key_frame.specs.KeyFrame.{frame_check}
use Rattle.bundle_rules.specs.Bundle.{key_id_in, id_stands, id_repeats, Line, follow, last_end, body_of, bodies_check}

-- ---- a line more

module _ {old rest : List Line} {l : Line} {offset size : ℕ} (e : old ≡ l ∷ rest) (o : offset ≡ l.offset) (s : size ≡ l.size) where
  pub follow-on : (end : ℕ) {whole : Bool} → offset ≡ end → whole ≡ follow end old → whole ≡ follow (offset + size) rest
  unfolding follow
  follow-on end p inv = inv ∙ rw (e, ← o, ← s, eq-eqb offset end p)

  pub end-on : (end : ℕ) {whole : ℕ} → whole ≡ last_end end old → whole ≡ last_end (offset + size) rest
  unfolding last_end
  end-on end inv = inv ∙ rw (e, ← o, ← s)

  -- the part of the file that its numbers name is its body
  pub body_told : (f : List ℕ) → take (offset + size - offset) (drop offset f) ≡ body_of f l
  unfolding body_of
  body_told f =
      let m : offset + size - offset ≡ size = omega arith in
      rw (m, o, s)

pub follow-not : {old rest : List Line} {l : Line} {offset end : ℕ} {whole : Bool} → old ≡ l ∷ rest → offset ≡ l.offset → (offset ≡ end → ⊥) → whole ≡ follow end old → whole ≡ false
unfolding follow
follow-not {offset = offset} {end = end} e o n inv = inv ∙ rw (e, ← o, ne_eqb offset end n)

pub follow_all : (end : ℕ) {old : List Line} {whole : Bool} → old ≡ [] → whole ≡ follow end old → whole ≡ true
unfolding follow
follow_all end e inv = inv ∙ ap (follow end) e

pub end_all : (end : ℕ) {old : List Line} {whole : ℕ} → old ≡ [] → whole ≡ last_end end old → end ≡ whole
unfolding last_end
end_all end e inv = sym (inv ∙ ap (last_end end) e)

-- ---- a body more, whose tests came to c

module _ (f : List ℕ) {body : List ℕ} {old rest : List Line} {l : Line} {whole c : Check} (e : old ≡ l ∷ rest) (q : body ≡ body_of f l)
    (t : c ≡ (frame_check body and_then unless (same_list (key_id_in body) l.id) (bare 50))) (inv : whole ≡ bodies_check f old) where
  one_more : whole ≡ (c and_then bodies_check f rest)
  unfolding bodies_check
  one_more = inv ∙ rw (e, t, q)

  pub bodies_stop : {x : Reason} → c ≡ refuse x → refuse x ≡ whole
  bodies_stop p = first_refuses _ _ p ∙ sym one_more

  pub bodies_on : c ≡ pass → whole ≡ bodies_check f rest
  bodies_on p = one_more ∙ sym (second_decides _ _ p)

pub bodies_done : (f : List ℕ) {old : List Line} {whole : Check} → old ≡ [] → whole ≡ bodies_check f old → pass ≡ whole
unfolding bodies_check
bodies_done f e inv = sym (inv ∙ ap (bodies_check f) e)

-- ---- a Key ID more, `own`, whose test came to b: it was found, or the loop goes on

module _ {own : List ℕ} {old rest : List (List ℕ)} {r b : Bool} (e : old ≡ own ∷ rest) where
  pub stands_on : (id : List ℕ) {whole : Bool} → r ≡ same_list own id → r ≡ b → whole ≡ id_stands id old → whole ≡ (b || id_stands id rest)
  unfolding id_stands
  stands_on id t p inv = inv ∙ rw (e, ← t, p)

  pub repeats-on : {whole : Bool} → r ≡ id_stands own rest → r ≡ b → whole ≡ id_repeats old → whole ≡ (b || id_repeats rest)
  unfolding id_repeats
  repeats-on t p inv = inv ∙ rw (e, ← t, p)

pub stands-not : (id : List ℕ) {old : List (List ℕ)} {whole : Bool} → old ≡ [] → whole ≡ id_stands id old → false ≡ whole
unfolding id_stands
stands-not id e inv = sym (inv ∙ ap (id_stands id) e)

pub repeats-not : {old : List (List ℕ)} {whole : Bool} → old ≡ [] → whole ≡ id_repeats old → false ≡ whole
unfolding id_repeats
repeats-not e inv = sym (inv ∙ ap id_repeats e)
