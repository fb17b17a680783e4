use mathlib.Core.Bool.{Bool}
use mathlib.Core.List.{List}
use mathlib.Core.Path.{ap, ◌∙◌}
use Prim.Native.Nat.{ℕ}
use Rattle.refusal.specs.Checks.{bare, unless}
use Rattle.slices.specs.Same.{same_list}
use Rattle.rfc3394.specs.Rfc3394.{initial_value}
use Rattle.keywrap_aes.proofs.unwrapping.Parts.{copied_rest, unwrapped_in_scratch}
use Rattle.keywrap_aes.proofs.unwrapping.unwrap_into.Goals as goal

pub returns : goal.returns
returns c =
    let s = c.args in
    let h = unwrapped_in_scratch s.kek s.wrapped.now _ _ _ _ c.requires.0 (copied_rest s.wrapped.now s.scratch.now _ c.requires.2 c.copy.ensures)
    c.front.ensures c.passes-a.ensures.next c.passes-a.ensures.part in
    record {
      integrity = c.unless.ensures ∙ ap (λ (b : Bool). unless b (bare 28)) (c.is_initial.ensures ∙ ap (λ (l : List ℕ). same_list l initial_value) h.0);
      key = h.1;
    }
