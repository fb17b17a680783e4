-- A negotiation between a peer and a server in which each gets what the other sent (RFC 5448 section 3.2): after an Ask the server answers it, and the
-- peer checks what the server wrote; without one the first round's answer stands.
use Rattle.std.specs.Prelude.{ℕ, List, take}
use Rattle.refusal.specs.Answers.{Answer, returned}
use Rattle.offer_rules.specs.Answers.{FirstAnswer, carry_on, ask, first_round, server_answer, server_buffer, RenewedAnswer, accepted, renewed_answer}

-- after the server's step: the peer's answer to what the server wrote
abbrev pub after_server : List ℕ → ℕ → List ℕ → Answer → RenewedAnswer
after_server offers value sent (returned count) = renewed_answer offers value (take count sent)
after_server offers value sent (Answer.refused x) = RenewedAnswer.refused x

-- after the first round: Carry On ends the negotiation, an Ask goes to the server, whose buffer is given
abbrev pub after_first : List ℕ → List ℕ → FirstAnswer → RenewedAnswer
after_first offers buffer (carry_on value) = accepted value
after_first offers buffer (ask value position) = after_server offers value (server_buffer offers value buffer) (server_answer offers value buffer)
after_first offers buffer (FirstAnswer.refused x) = RenewedAnswer.refused x

-- that buffer at the end
abbrev pub buffer_after_first : List ℕ → List ℕ → FirstAnswer → List ℕ
buffer_after_first offers buffer (carry_on value) = buffer
buffer_after_first offers buffer (ask value position) = server_buffer offers value buffer
buffer_after_first offers buffer (FirstAnswer.refused x) = buffer

-- what the peer holds at the end
unfoldable pub negotiated : List ℕ → List ℕ → List ℕ → RenewedAnswer
negotiated offers supported buffer = after_first offers buffer (first_round offers supported)

-- what the server's buffer holds at the end
unfoldable pub negotiated_buffer : List ℕ → List ℕ → List ℕ → List ℕ
negotiated_buffer offers supported buffer = buffer_after_first offers buffer (first_round offers supported)
