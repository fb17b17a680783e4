-- `key_reader::fields` meets its contract: field by field, from what each call answers.
use Prim.Native.Nat.{◌+◌, ◌≤◌}
use native.Mathlib.Omega.{arith}
use lib.ListN.{length, get_or}
use Rattle.key_frame.specs.KeyFrame.{fields_in}
use Rattle.key_reader.proofs.Reading.{id_at}
use Rattle.key_reader.proofs.fields.Goals as goal

pub returns : goal.returns
unfolding fields_in
returns c =
    let a = c.args.attribute.now in
    let long₁ : 8 + 16 ≤ length a = omega arith in
    let long₂ : 24 + 16 ≤ length a = omega arith in
    λ i.
    record {
      attribute_type = get_or a 0 0;
      app_id = c.number_at.ensures i;
      kek_id = id_at a 8 long₁ c.first.ensures i;
      key_id = id_at a 24 long₂ c.first-2.ensures i;
      lifetime = c.number_at-2.ensures i;
    }
