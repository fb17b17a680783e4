-- What reading a Key attribute returns to C, by what it answers: kv_key_attribute of include/ketvaulo.h.
use Rattle.std.specs.Prelude.{ℕ}
use Rattle.key_frame.specs.declared.KeyFields.{KeyFields}
use Rattle.key_reader.specs.KeyReader.{Reading, accepted, no_fields}
use Rattle.outcome.specs.Outcomes.{number_in}
use Rattle.outcome.specs.declared.key_attributes.KeyAttributeOutcome.{KeyAttributeOutcome}

-- a refusal's number or 0, a key's length, and the fields
abbrev pub key_told : ℕ → ℕ → KeyFields → KeyAttributeOutcome
key_told number key_length f =
    record {
      refusal = number;
      app_id = f.app_id;
      lifetime = f.lifetime;
      key_len = key_length;
      attribute_type = f.attribute_type;
      kek_id = f.kek_id;
      key_id = f.key_id;
    }

-- kv_key_attribute: the fields and the key's length; or the number and zeros
abbrev pub key_outcome : Reading → KeyAttributeOutcome
key_outcome (accepted f n) = key_told 0 n f
key_outcome (Reading.refused x) = key_told (number_in x) 0 no_fields
