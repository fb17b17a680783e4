use mathlib.Core.Path.{sym, ap, ◌∙◌}
use Rattle.fips197.specs.KeyExpansion.{expand_key}
use Rattle.rfc3394.specs.Rfc3394.{high, Registers}
use Rattle.keywrap_aes.specs.declared.passes.Direction.{Direction}
use Rattle.keywrap_aes.specs.Internal.{passes_of}
use Rattle.keywrap_aes.specs.Walks.{forward_walks, back_walks}
use Rattle.keywrap_aes.proofs.passes.passes.Goals as goal

pub returns-in-Forward : goal.returns-in-Forward
returns-in-Forward c =
    let s = c.args in
    let e = forward_walks s.kek _ (c.expand_key.ensures ∙ ap expand_key c.key_state.ensures) (high s.a, s.b.now)
    ∙ ap (λ (d : Direction). passes_of d s.kek (high s.a, s.b.now)) (sym c.in-Forward.is) in
    record {
      next = c.all_passes.ensures.next ∙ ap (λ (x : Registers). x.0) e;
      part = c.all_passes.ensures.part ∙ ap (λ (x : Registers). x.1) e;
    }

pub returns-in-Back : goal.returns-in-Back
returns-in-Back c =
    let s = c.args in
    let e = back_walks s.kek _ _ (c.expand_key.ensures ∙ ap expand_key c.key_state.ensures) c.invert_keys.ensures (high s.a, s.b.now)
    ∙ ap (λ (d : Direction). passes_of d s.kek (high s.a, s.b.now)) (sym c.in-Back.is) in
    record {
      next = c.all_passes-in-Back.ensures.next ∙ ap (λ (x : Registers). x.0) e;
      part = c.all_passes-in-Back.ensures.part ∙ ap (λ (x : Registers). x.1) e;
    }
