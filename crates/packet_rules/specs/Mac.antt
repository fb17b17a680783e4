-- Request 8. The packet's MAC (source document 004, section 3.3, MAC Type 2: HMAC-SHA-256), what signing a packet answers and leaves, and
-- what checking one answers. Over any MAC function: the crate that signs names HMAC-SHA-256.
use Rattle.std.specs.Prelude.{ℕ, ◌+◌, List, ◌++◌, take, drop, replicate}
use Rattle.refusal.specs.Checks.{Check, bare, unless, ◌and_then◌, check1, check20}
use Rattle.refusal.specs.Answers.{Answer, answer_to, after_check}
use Rattle.slices.specs.Same.{same_list}
use Rattle.packet_rules.specs.Packet.{check35, check36, check37, mac_at}

-- the packet with other bytes in place of the 32 of the MAC in the attribute at an offset
unfoldable pub with_mac : ℕ → List ℕ → List ℕ → List ℕ
with_mac at mac p = take (at + 20) p ++ (mac ++ drop (at + 52) p)

-- those 32
unfoldable pub mac_in : ℕ → List ℕ → List ℕ
mac_in at p = take 32 (drop (at + 20) p)

-- what the MAC covers: the packet as lent, its own 32 bytes read as zero
unfoldable pub mac_input : ℕ → List ℕ → List ℕ
mac_input type p = with_mac (mac_at type p) (replicate 32 0) p

-- the writer's order: 1, 20, 35, 36, 37
unfoldable pub packet_check : List ℕ → ℕ → List ℕ → Check
packet_check key type p = check1 key and_then check20 type and_then check35 p and_then check36 p and_then check37 type p

-- what signing answers: 32, the bytes it wrote
unfoldable pub sign_answer : List ℕ → ℕ → List ℕ → Answer
sign_answer key type p = answer_to (packet_check key type p) 32

module _ (hmac_sha256 : List ℕ → List ℕ → List ℕ) where
  unfoldable pub mac_of : List ℕ → ℕ → List ℕ → List ℕ
  mac_of key type p = hmac_sha256 key (mac_input type p)

  -- 38: MAC differs
  abbrev pub check38 : List ℕ → ℕ → List ℕ → Check
  check38 key type p = unless (same_list (mac_in (mac_at type p) p) (mac_of key type p)) (bare 38)

  -- the checker's order: the writer's, then 38
  unfoldable pub check_check : List ℕ → ℕ → List ℕ → Check
  check_check key type p = packet_check key type p and_then check38 key type p

  unfoldable pub sign_buffer : List ℕ → ℕ → List ℕ → List ℕ
  sign_buffer key type p = after_check (packet_check key type p) (with_mac (mac_at type p) (mac_of key type p) p) p
