-- The checked cases of request 9, computed from the definitions.
use mathlib.Core.Path.{refl}
use mathlib.Core.List.{flatten}
use Rattle.refusal.specs.Checks.{unless, within}
use Rattle.slices.specs.Same.{same_list}
use Rattle.keywrap.specs.Calls.{wrappable}
use Rattle.key_frame.specs.KeyFrame.{fields_in, length_holds, frame_check}
use Rattle.radius_attributes.specs.Attributes.{whole, attribute_length, split_from, split}
use Rattle.bundle_rules.specs.Bundle.{
  key_id_in,
  id_stands,
  id_repeats,
  line_of,
  lines_of,
  file_of,
  frames_check,
  packed_check,
  write_check,
  write_answer,
  line_at,
  lines_from,
  follow,
  last_end,
  body_of,
  bodies_check,
  contents_check,
  bundle_check,
  read_check,
  read_answer,
}
use Rattle.bundle_rules.specs.Cases.{ReadCases, WriteCases}

pub read_cases : ReadCases
unfolding read_answer read_check bundle_check contents_check bodies_check body_of last_end follow lines_from line_at file_of lines_of line_of id_repeats id_stands flatten key_id_in fields_in frame_check length_holds wrappable same_list unless within
read_cases = (refl, refl, refl, refl, refl, refl, refl, refl, refl, refl, refl, refl, refl, refl, refl, refl, refl, refl, refl, refl)

pub write_cases : WriteCases
unfolding write_answer write_check packed_check frames_check split split_from attribute_length whole id_repeats id_stands key_id_in fields_in frame_check length_holds wrappable same_list unless within
write_cases = (refl, refl, refl, refl, refl, refl, refl, refl, refl, refl)
