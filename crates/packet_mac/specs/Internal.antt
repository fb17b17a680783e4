-- What only the contracts of private functions need. Nothing here has to be believed.
use Rattle.std.specs.Prelude.{ℕ, ◌+◌, ◌<◌, ◌≡◌, List, [], ◌∷◌, cond, length, drop, get_or, Option, Some, None, Result, Ok, Err}
use Rattle.radius_attributes.specs.Attributes.{whole, attribute_length}
use Rattle.refusal.specs.declared.Refusal.{Refusal}
use Rattle.refusal.specs.declared.Refusal.TheVariants.{PacketAttributeBounds, MacAttribute}
use Rattle.packet_rules.specs.Packet.{attributes, all_whole, places}
use Rattle.packet_mac.specs.declared.attributes.Seen.{Seen}
use Rattle.packet_mac.specs.declared.attributes.Seen.TheVariants.{Never, Once, Repeatedly}

-- how many places there are
abbrev pub seen : List ℕ → Seen
seen [] = Never
seen (at ∷ []) = Once at
seen (at ∷ (next ∷ later)) = Repeatedly

-- with one more place
abbrev pub seen_also : Seen → ℕ → Seen
seen_also Never at = Once at
seen_also (Once first) at = Repeatedly
seen_also Repeatedly at = Repeatedly

-- the one place, or the refusal 37
abbrev pub only_of : Seen → Result ℕ Refusal
only_of Never = Err MacAttribute
only_of (Once at) = Ok at
only_of Repeatedly = Err MacAttribute

-- what the walk finds of a type in a packet
unfoldable pub found_in : ℕ → List ℕ → Result Seen Refusal
found_in type p = cond (all_whole (attributes p)) (Ok (seen (places type p))) (Err PacketAttributeBounds)

-- what the walk tells of the attribute at the start of bytes: its type, none where it is cut
unfoldable pub type_in : List ℕ → Option ℕ
type_in bytes = cond (whole bytes) (Some (get_or bytes 0 0)) None

-- what it tells at an offset of a packet, and where it goes on
pub record Told (p : List ℕ) (at : ℕ) (type : Option ℕ) (next : ℕ) : Type 0 where
  pub inside : at < length p
  pub told : type ≡ type_in (drop at p)
  pub past : next ≡ at + attribute_length (drop at p)
