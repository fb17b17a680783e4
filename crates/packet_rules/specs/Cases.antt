-- Worked cases of request 8: what is accepted, with the attribute's place, and a packet for each fault, in the request's order.
use Rattle.std.specs.Prelude.{◌≡◌, ℕ, ◌+◌, ◌/◌, ◌%◌, List, [], ◌∷◌, ◌++◌, length, replicate}
use Rattle.refusal.specs.Checks.{Check, pass, refuse, bare}
use Rattle.packet_rules.specs.Packet.{mac_at}
use Rattle.packet_rules.specs.Mac.{packet_check, check_check}

-- a header with two length bytes, then the attributes
abbrev pub length_bytes : (high low : ℕ) → List ℕ → List ℕ
length_bytes high low attributes = 2 ∷ 7 ∷ high ∷ low ∷ (replicate 16 9 ++ attributes)

-- with those that belong to it
abbrev pub packet : List ℕ → List ℕ
packet attributes = length_bytes ((20 + length attributes) / 256) ((20 + length attributes) % 256) attributes

-- an attribute of type 90 with so many bytes after its first four
abbrev pub mac : (size reserved kind more : ℕ) → List ℕ
mac size reserved kind more = 90 ∷ size ∷ reserved ∷ kind ∷ replicate more 5

abbrev pub good : List ℕ
good = mac 52 0 2 48

abbrev pub other : List ℕ
other = 1 ∷ 3 ∷ 90 ∷ []

abbrev pub key : List ℕ
key = replicate 64 3

-- the tests for type 90
abbrev pub tests : List ℕ → Check
tests p = packet_check key 90 p

abbrev pub Cases : Type 0
Cases =
    (tests (packet good) ≡ pass)
    × (mac_at 90 (packet good) ≡ 20)
    × (tests (packet (other ++ good ++ other)) ≡ pass)
    × (mac_at 90 (packet (other ++ good ++ other)) ≡ 23)
    -- 1 before 20 before 35
    × (packet_check (replicate 63 3) 0 (2 ∷ []) ≡ refuse (bare 1))
    × (packet_check (replicate 129 3) 90 (packet good) ≡ refuse (bare 1))
    × (packet_check key 0 (2 ∷ []) ≡ refuse (bare 20))
    × (tests (2 ∷ 7 ∷ 0 ∷ []) ≡ refuse (bare 35))
    × (tests (length_bytes 0 73 good) ≡ refuse (bare 35))
    × (tests (length_bytes 1 72 good) ≡ refuse (bare 35))
    -- 35 before 36
    × (tests (length_bytes 0 20 (90 ∷ [])) ≡ refuse (bare 35))
    × (tests (packet (good ++ 90 ∷ [])) ≡ refuse (bare 36))
    × (tests (packet (good ++ 90 ∷ 0 ∷ [])) ≡ refuse (bare 36))
    × (tests (packet (good ++ 90 ∷ 1 ∷ [])) ≡ refuse (bare 36))
    × (tests (packet (good ++ 90 ∷ 3 ∷ [])) ≡ refuse (bare 36))
    × (tests (packet (good ++ good ++ 1 ∷ 3 ∷ [])) ≡ refuse (bare 36))
    × (tests (packet []) ≡ refuse (bare 37))
    × (tests (packet other) ≡ refuse (bare 37))
    × (tests (packet (good ++ 90 ∷ 2 ∷ [])) ≡ refuse (bare 37))
    × (tests (packet (mac 51 0 2 47)) ≡ refuse (bare 37))
    × (tests (packet (90 ∷ 2 ∷ [])) ≡ refuse (bare 37))
    × (tests (packet (mac 52 1 2 48)) ≡ refuse (bare 37))
    × (tests (packet (mac 52 0 1 48)) ≡ refuse (bare 37))

-- a MAC of 32 bytes of one value, whatever the key and the message; the MAC in `good` is such a one
abbrev pub mac_of32 : ℕ → List ℕ → List ℕ → List ℕ
mac_of32 value k message = replicate 32 value

abbrev pub CheckCases : Type 0
CheckCases =
    (check_check (mac_of32 5) key 90 (packet good) ≡ pass)
    × (check_check (mac_of32 6) key 90 (packet good) ≡ refuse (bare 38))
    × (check_check (mac_of32 6) key 90 (packet other) ≡ refuse (bare 37))
