-- The checked cases of request 10, computed from the definitions.
use mathlib.Core.Path.{refl}
use mathlib.Core.List.{flatten}
use Rattle.refusal.specs.Checks.{unless, ◌and_then◌, within}
use Rattle.slices.specs.Same.{same_list}
use Rattle.keywrap.specs.Calls.{wrappable}
use Rattle.key_frame.specs.KeyFrame.{fields_in, length_holds, frame_check}
use Rattle.bundle_rules.specs.Bundle.{
  key_id_in,
  id_stands,
  id_repeats,
  line_of,
  lines_of,
  file_of,
  line_at,
  lines_from,
  follow,
  last_end,
  body_of,
  bodies_check,
  contents_check,
  bundle_check,
}
use Rattle.compare_rules.specs.Compare.{lookup, listed, first_entries, second_entries, entries, written, count_kind, entries_in, compare_check, compare_answer, compare_buffer, compare_counts}
use Rattle.compare_rules.specs.Cases.{CompareCases}

pub compare_cases : CompareCases
unfolding compare_answer compare_buffer compare_counts compare_check entries_in entries first_entries second_entries listed lookup written count_kind bundle_check contents_check bodies_check body_of last_end follow lines_from line_at file_of lines_of line_of id_repeats id_stands flatten key_id_in fields_in frame_check length_holds wrappable same_list unless within
compare_cases = (refl, refl, refl, refl, refl, refl, refl, refl)
