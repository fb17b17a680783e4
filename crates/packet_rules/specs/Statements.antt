-- Request 8, what is shown of signing and checking. Over any MAC function whose result has 32 bytes.
use Rattle.std.specs.Prelude.{ℕ, ◌+◌, ◌≤◌, ◌<◌, ◌≡◌, ◌⊎◌, ◌↔◌, List, length, get_or}
use Rattle.refusal.specs.Checks.{pass}
use Rattle.refusal.specs.Answers.{returned}
use Rattle.packet_rules.specs.Packet.{mac_at}
use Rattle.packet_rules.specs.Mac.{mac_input, packet_check, check_check, sign_answer, sign_buffer}

-- the one law asked of the MAC function
abbrev pub Has32 : (List ℕ → List ℕ → List ℕ) → Type 0
Has32 mac = (key message : List ℕ) → length (mac key message) ≡ 32

-- two packets agree in every byte outside the MAC's 32, those of the attribute at an offset
pub record AgreeOutside (at : ℕ) (p q : List ℕ) : Type 0 where
  pub lengths : length p ≡ length q
  pub bytes : (j : ℕ) → (j < at + 20) ⊎ (at + 52 ≤ j) → get_or p j 0 ≡ get_or q j 0

-- what the writer signs, the checker accepts under the same key and type number
abbrev pub SignedPasses : (List ℕ → List ℕ → List ℕ) → Type 0
SignedPasses mac = (key p : List ℕ) (type : ℕ) → sign_answer key type p ≡ returned 32 → check_check mac key type (sign_buffer mac key type p) ≡ pass

-- all packet bytes but the MAC's 32 stay as they were, and the length does
abbrev pub OthersStay : (List ℕ → List ℕ → List ℕ) → Type 0
OthersStay mac = (key p : List ℕ) (type : ℕ) → AgreeOutside (mac_at type p) (sign_buffer mac key type p) p

-- signing what was signed changes nothing
abbrev pub SignsAgain : (List ℕ → List ℕ → List ℕ) → Type 0
SignsAgain mac = (key p : List ℕ) (type : ℕ) → sign_buffer mac key type (sign_buffer mac key type p) ≡ sign_buffer mac key type p

-- the checker accepts a packet exactly where 1 to 37 pass and signing would change nothing in it
abbrev pub OnlySigned : (List ℕ → List ℕ → List ℕ) → Type 0
OnlySigned mac =
    (key p : List ℕ) (type : ℕ) → (check_check mac key type p ≡ pass) ↔ ((packet_check key type p ≡ pass) × (sign_buffer mac key type p ≡ p))

-- two packets that pass 1 to 37 for one type hand HMAC the same bytes exactly when they agree in every byte outside the MAC's 32
abbrev pub Covered : Type 0
Covered =
    (key₁ key₂ p q : List ℕ) (type : ℕ) → packet_check key₁ type p ≡ pass → packet_check key₂ type q ≡ pass
    → (mac_input type p ≡ mac_input type q) ↔ AgreeOutside (mac_at type p) p q
