-- The worked cases, each by computation.
use mathlib.Core.Path.{refl}
use Rattle.refusal.specs.Checks.{unless}
use Rattle.slices.specs.Same.{same_list}
use Rattle.area_format.specs.Area.{in_bounds, kdf, zeros, kdf_input, attribute, attributes_from, attributes, read_on, walked, reading, area_answer, area_buffer}
use Rattle.area_format.specs.Names.{fields, pairs_agree, same_fields}
use Rattle.area_format.specs.Cases.{Cases, NameCases}

pub cases : Cases
unfolding unless same_list fields pairs_agree same_fields in_bounds kdf zeros kdf_input attribute attributes_from attributes read_on walked reading area_answer area_buffer
cases = (refl, refl, refl, refl, refl, refl, refl, refl, refl, refl, refl, refl, refl, refl, refl, refl, refl, refl, refl, refl)

pub name_cases : NameCases
unfolding same_list fields pairs_agree same_fields
name_cases = (refl, refl, refl, refl, refl, refl, refl, refl, refl, refl, refl)
