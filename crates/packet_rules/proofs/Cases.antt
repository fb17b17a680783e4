-- The worked cases, each by computation.
use mathlib.Core.Path.{refl}
use Rattle.refusal.specs.Checks.{unless, ◌and_then◌, within}
use Rattle.slices.specs.Same.{same_list}
use Rattle.radius_attributes.specs.Attributes.{whole, attribute_length, split_from, split}
use Rattle.packet_rules.specs.Packet.{length_holds, attributes, all_whole, of_type, places_from, places, mac_at, is_mac, one_mac}
use Rattle.packet_rules.specs.Mac.{mac_in, mac_of, packet_check, check_check}
use Rattle.packet_rules.specs.Cases.{Cases, CheckCases}

pub cases : Cases
unfolding packet_check unless within length_holds whole attribute_length split_from split attributes all_whole of_type places_from places mac_at is_mac one_mac
cases = (refl, refl, refl, refl, refl, refl, refl, refl, refl, refl, refl, refl, refl, refl, refl, refl, refl, refl, refl, refl, refl, refl, refl)

pub check_cases : CheckCases
unfolding check_check mac_in mac_of same_list packet_check unless within length_holds whole attribute_length split_from split attributes all_whole of_type places_from places mac_at is_mac one_mac
check_cases = (refl, refl, refl)
