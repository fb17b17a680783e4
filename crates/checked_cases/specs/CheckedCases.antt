-- Document 01, "Checked cases": the rows P1 to P14, each with the paper's input and result, over the definitions that the contracts cite. The proof is
-- `checked_cases` of proofs/CheckedCases.antt.
use Rattle.std.specs.Prelude.{ℕ, ◌≤◌, ◌≡◌, List, [], ◌∷◌, length, get_or}
use Rattle.slices.specs.Ascii.{ascii}
use Rattle.refusal.specs.Checks.{bare, pass, ◌and_then◌, check20}
use Rattle.refusal.specs.Answers.{Answer, returned}
use Rattle.requests.specs.Requests.{for_usage, text_of, input_of}
use Rattle.offer_rules.specs.Answers.{FirstAnswer, carry_on, ask, first_round, server_answer, server_buffer, RenewedAnswer, renewed_answer}
use Rattle.key_frame.specs.KeyFrame.{check22}
use Rattle.key_frame.specs.declared.KeyFields.{KeyFields}
use Rattle.key_writer.specs.KeyWriter.{check21, write_answer, write_buffer}

pub record CheckedCases : Type 0 where
  -- label a, no data, n 64: S = 61 00 00 40
  pub p1 : (room : ℕ) → text_of (for_usage (ascii "a") [] 64 room) ≡ 0x61 ∷ 0x00 ∷ 0x00 ∷ 0x40 ∷ []
  -- label a, data byte 00, n 64: S = 61 00 00 00 40
  pub p2 : (room : ℕ) → text_of (for_usage (ascii "a") (0x00 ∷ []) 64 room) ≡ 0x61 ∷ 0x00 ∷ 0x00 ∷ 0x00 ∷ 0x40 ∷ []
  -- label ab, no data, n 64: S = 61 62 00 00 40
  pub p3 : (room : ℕ) → text_of (for_usage (ascii "ab") [] 64 room) ≡ 0x61 ∷ 0x62 ∷ 0x00 ∷ 0x00 ∷ 0x40 ∷ []
  -- label a, data b, n 64: S = 61 00 62 00 40
  pub p4 : (room : ℕ) → text_of (for_usage (ascii "a") (ascii "b") 64 room) ≡ 0x61 ∷ 0x00 ∷ 0x62 ∷ 0x00 ∷ 0x40 ∷ []
  -- P1's first block: 61 00 00 40 01, the bytes that are handed to HMAC
  pub p5 : (emsk : List ℕ) (room : ℕ) → input_of emsk (for_usage (ascii "a") [] 64 room) 1 ≡ 0x61 ∷ 0x00 ∷ 0x00 ∷ 0x40 ∷ 0x01 ∷ []
  -- offers 2,1; supported 1: Ask 1, position 1
  pub p6 : first_round (2 ∷ 1 ∷ []) (1 ∷ []) ≡ ask 1 1
  -- offers 2,1; supported 1,2: Carry On 2
  pub p7 : first_round (2 ∷ 1 ∷ []) (1 ∷ 2 ∷ []) ≡ carry_on 2
  -- offers 2,2: 11, in each of the three calls, whatever else is lent
  pub p8 :
      ((supported : List ℕ) → first_round (2 ∷ 2 ∷ []) supported ≡ FirstAnswer.refused (bare 11))
      × ((reply : ℕ) (buffer : List ℕ) → server_answer (2 ∷ 2 ∷ []) reply buffer ≡ Answer.refused (bare 11))
      × ((choice : ℕ) (renewed : List ℕ) → renewed_answer (2 ∷ 2 ∷ []) choice renewed ≡ RenewedAnswer.refused (bare 11))
  -- offers 2,1; supported 3: 12
  pub p9 : first_round (2 ∷ 1 ∷ []) (3 ∷ []) ≡ FirstAnswer.refused (bare 12)
  -- server 2,1; reply 1: 1,2,1, here in a buffer of four values, whose last stays; and the count 3
  pub p10 :
      (a b c d : ℕ)
      → (server_answer (2 ∷ 1 ∷ []) 1 (a ∷ b ∷ c ∷ d ∷ []) ≡ returned 3)
      × (server_buffer (2 ∷ 1 ∷ []) 1 (a ∷ b ∷ c ∷ d ∷ []) ≡ 1 ∷ 2 ∷ 1 ∷ d ∷ [])
  -- server 2,1; reply 2: 13
  pub p11 : (buffer : List ℕ) → server_answer (2 ∷ 1 ∷ []) 2 buffer ≡ Answer.refused (bare 13)
  -- server 2,1; reply 7: 14
  pub p12 : (buffer : List ℕ) → server_answer (2 ∷ 1 ∷ []) 7 buffer ≡ Answer.refused (bare 14)
  -- original 2,1; choice 1; renewed 1,1,2: 15
  pub p13 : renewed_answer (2 ∷ 1 ∷ []) 1 (1 ∷ 1 ∷ 2 ∷ []) ≡ RenewedAnswer.refused (bare 15)
  -- key of 192 bytes: attribute length 252, answered and in the attribute's length byte; key of 200: 23. The type, the IDs and the KEK are such as pass
  pub p14 :
      (f : KeyFields) (kek key buffer : List ℕ)
      → (check20 f.attribute_type and_then check21 f.kek_id f.key_id and_then check22 kek) ≡ pass
      → (length key ≡ 192
      → 252 ≤ length buffer
      → (write_answer f kek key (length buffer) ≡ returned 252) × (get_or (write_buffer f kek key buffer) 1 0 ≡ 252))
      × (length key ≡ 200 → write_answer f kek key (length buffer) ≡ Answer.refused (bare 23))
