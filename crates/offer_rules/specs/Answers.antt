-- What the peer answers in the first round, the server on the reply, and the peer on the renewed list, by document 01's numbers and values ("Offers").
use Rattle.std.specs.Prelude.{ℕ, zero, suc, ◌+◌, List, length, get_or}
use Rattle.refusal.specs.Checks.{Reason, Check, pass, refuse}
use Rattle.refusal.specs.Answers.{Answer, answer_to, buffer_after}
use Rattle.offer_rules.specs.Rfc5448.{first_supported, renewed_list, choose_check, answer_check, renewed_check}

-- the first round's answer: Carry On with the value, Ask with value and position counted from 0, or a refusal
pub data FirstAnswer : Type 0 where
  carry_on : (value : ℕ) → FirstAnswer
  ask : (value position : ℕ) → FirstAnswer
  refused : Reason → FirstAnswer

-- the answer to a list of offers whose offer at the position is taken: at position 0 the function is taken into use without any further negotiation
abbrev pub first_round_at : List ℕ → ℕ → FirstAnswer
first_round_at offers zero = carry_on (get_or offers zero 0)
first_round_at offers (suc i) = ask (get_or offers (suc i) 0) (suc i)

-- the same, by the tests
abbrev pub first_round_to : Check → List ℕ → ℕ → FirstAnswer
first_round_to pass offers position = first_round_at offers position
first_round_to (refuse x) offers position = refused x

-- the answer of the peer's first round
unfoldable pub first_round : List ℕ → List ℕ → FirstAnswer
first_round offers supported = first_round_to (choose_check offers supported) offers (first_supported offers supported)

-- the server's answer to a reply: the new count, or a refusal
unfoldable pub server_answer : List ℕ → ℕ → List ℕ → Answer
server_answer offers reply buffer = answer_to (answer_check offers reply (length buffer)) (length offers + 1)

-- the server's buffer after it
unfoldable pub server_buffer : List ℕ → ℕ → List ℕ → List ℕ
server_buffer offers reply buffer = buffer_after (answer_check offers reply (length buffer)) (length offers + 1) (renewed_list offers reply) buffer

-- the answer to the renewed list: the choice, or a refusal
pub data RenewedAnswer : Type 0 where
  accepted : (choice : ℕ) → RenewedAnswer
  refused : Reason → RenewedAnswer

abbrev pub renewed_to : Check → ℕ → RenewedAnswer
renewed_to pass choice = accepted choice
renewed_to (refuse x) choice = refused x

-- the peer's answer to the renewed list
unfoldable pub renewed_answer : List ℕ → ℕ → List ℕ → RenewedAnswer
renewed_answer original choice renewed = renewed_to (renewed_check original choice renewed) choice
