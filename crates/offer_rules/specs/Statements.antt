-- What is proved of the definitions: that they say what RFC 5448 section 3.2 and document 01, "Offers", say in words, and what a login may rely on
-- (document 02, request 14: OffersKept, OffersAgreed). The proofs are in proofs/OffersKept.antt and proofs/Statements.antt.
use Rattle.std.specs.Prelude.{ℕ, ◌+◌, ◌≤◌, ◌<◌, ◌≡◌, true, false, ◌↔◌, List, ◌∷◌, length, get_or, take}
use Rattle.refusal.specs.Checks.{pass, ◌and_then◌}
use Rattle.refusal.specs.Answers.{returned}
use Rattle.offer_rules.specs.Rfc5448.{stands, repeats, first_supported, check13, check14}
use Rattle.offer_rules.specs.Answers.{ask, first_round, server_answer, server_buffer, accepted, renewed_answer}
use Rattle.offer_rules.specs.Negotiation.{negotiated}

-- the position of the first supported offer: at it, where it is one of the list, stands a supported offer, and at each before it one that is not
abbrev pub FirstIsFirst : Type 0
FirstIsFirst =
    (offers supported : List ℕ)
    → (first_supported offers supported < length offers → stands (get_or offers (first_supported offers supported) 0) supported ≡ true)
    × (first_supported offers supported ≤ length offers)
    × ((j : ℕ) → j < first_supported offers supported → stands (get_or offers j 0) supported ≡ false)

-- of the supported list only which values stand in it counts: neither its order, nor its length, nor a value that it repeats
abbrev pub SupportedAsSet : Type 0
SupportedAsSet =
    (offers supported₁ supported₂ : List ℕ)
    → ((value : ℕ) → stands value supported₁ ≡ stands value supported₂)
    → first_round offers supported₁ ≡ first_round offers supported₂

-- of a list without repeats, 13 and 14 pass exactly the offers after the first
abbrev pub ReplyAfterFirst : Type 0
ReplyAfterFirst =
    (first : ℕ) (others : List ℕ) (reply : ℕ)
    → repeats (first ∷ others) ≡ false
    → ((check13 (first ∷ others) reply and_then check14 (first ∷ others) reply) ≡ pass) ↔ (stands reply others ≡ true)

-- a negotiation in which each gets what the other sent, and the server's buffer has room for the list and the reply, ends with what the peer asked for
abbrev pub UnalteredAccepted : Type 0
UnalteredAccepted =
    (offers supported : List ℕ) (value position : ℕ) (buffer : List ℕ)
    → first_round offers supported ≡ ask value position
    → length offers + 1 ≤ length buffer
    → negotiated offers supported buffer ≡ accepted value

-- the value is the first of the offers that the peer supports
abbrev pub FirstOffer : List ℕ → List ℕ → ℕ → Type 0
FirstOffer offers supported value =
    (position : ℕ)
    × (position < length offers)
    × (value ≡ get_or offers position 0)
    × (stands value supported ≡ true)
    × ((j : ℕ) → j < position → stands (get_or offers j 0) supported ≡ false)

-- Document 02, request 14. The peer saw some list, perhaps not the server's, and asked for a choice; the server accepted some reply, perhaps not the
-- peer's, and what it wrote came through whole. If the peer then accepts, it had seen the server's own list, its own reply arrived, and both hold the
-- first offer of the server's list that the peer supports.
abbrev pub OffersKept : Type 0
OffersKept =
    (seen offers supported buffer : List ℕ) (choice position reply count held : ℕ)
    → first_round seen supported ≡ ask choice position
    → server_answer offers reply buffer ≡ returned count
    → renewed_answer seen choice (take count (server_buffer offers reply buffer)) ≡ accepted held
    → (seen ≡ offers) × (reply ≡ choice) × (held ≡ reply) × FirstOffer offers supported held

-- Document 02, request 14. With nothing altered on the way, the server accepts what the peer asked for, and the peer what the server wrote. The
-- peer asks only on a list of at most 16 offers, so a buffer of 17 values has room.
abbrev pub OffersAgreed : Type 0
OffersAgreed =
    (offers supported buffer : List ℕ) (choice position : ℕ)
    → first_round offers supported ≡ ask choice position
    → 17 ≤ length buffer
    → (count : ℕ)
    × (server_answer offers choice buffer ≡ returned count)
    × (renewed_answer offers choice (take count (server_buffer offers choice buffer)) ≡ accepted choice)
