-- What is proved of requests under an EMSK (document 01, demand 3, "Usage keys", "Visited keys"; document 02, request 6). The proofs are `separated`
-- and `usage_text_example` of proofs/Separation.antt, those of the two statements on domains in proofs/Domains.antt, and `key_of_blocks`, `vrk_is_usage` and
-- `some_accepted` of proofs/Requests.antt.
use Rattle.std.specs.Prelude.{ℕ, ◌≤◌, ◌≡◌, Bool, true, false, ◌↔◌, List, [], ◌∷◌, length, take, replicate}
use Rattle.slices.specs.Ascii.{ascii}
use Rattle.refusal.specs.Checks.{refuse, bare, located}
use Rattle.hmac.specs.Rfc2104.{hmac_sha256}
use Rattle.prf_plus.specs.PrfPlus.{block_count, block, blocks}
use Rattle.labels.specs.FixedLabels.{vrk_label, dsrk_label}
use Rattle.requests.specs.Requests.{Request, for_usage, for_vrk, for_domain, label_of, data_of, length_of, check_of, Accepted, BlockOf, text_of, input_of, key_of}

-- Demand 3: for any EMSK, any two requests accepted under it and any block of each, the bytes handed to HMAC are equal exactly when
-- label, optional data, key length and block number are all equal. Nothing is assumed of HMAC or SHA-256
abbrev pub Separated : Type 0
Separated =
    (emsk : List ℕ) (r₁ r₂ : Request)
    → Accepted emsk r₁ → Accepted emsk r₂
    → (i j : ℕ) → BlockOf r₁ i → BlockOf r₂ j
    → (input_of emsk r₁ i ≡ input_of emsk r₂ j) ↔ ((label_of r₁ ≡ label_of r₂) × (data_of r₁ ≡ data_of r₂) × (length_of r₁ ≡ length_of r₂) × (i ≡ j))

-- Usage requests and requests for a domain are kept apart, which demand 3 alone does not say: two accepted requests of which a block each has the
-- same bytes are both for a domain, or neither is
abbrev pub is_for_domain : Request → Bool
is_for_domain (for_usage label extra n room) = false
is_for_domain (for_vrk room) = false
is_for_domain (for_domain domain room) = true

abbrev pub KindsApart : Type 0
KindsApart =
    (emsk : List ℕ) (r₁ r₂ : Request)
    → Accepted emsk r₁ → Accepted emsk r₂
    → (i j : ℕ) → BlockOf r₁ i → BlockOf r₂ j
    → input_of emsk r₁ i ≡ input_of emsk r₂ j → is_for_domain r₁ ≡ is_for_domain r₂

-- Of two accepted requests for a domain, a block each has the same bytes exactly when domain and block number are equal. So two domains whose
-- VMSKs are one (`VmskNotInjective` of the crate visited) have domain root keys of their own: no block of the one has the bytes of a block of the other
abbrev pub DomainsApart : Type 0
DomainsApart =
    (emsk domain₁ domain₂ : List ℕ) (room₁ room₂ : ℕ)
    → Accepted emsk (for_domain domain₁ room₁) → Accepted emsk (for_domain domain₂ room₂)
    → (i j : ℕ) → BlockOf (for_domain domain₁ room₁) i → BlockOf (for_domain domain₂ room₂) j
    → (input_of emsk (for_domain domain₁ room₁) i ≡ input_of emsk (for_domain domain₂ room₂) j) ↔ ((domain₁ ≡ domain₂) × (i ≡ j))

abbrev pub DomainsApartExample : Type 0
DomainsApartExample =
    (emsk : List ℕ) (room₁ room₂ : ℕ)
    → Accepted emsk (for_domain (ascii "2.example") room₁) → Accepted emsk (for_domain (ascii ".example") room₂)
    → (i j : ℕ) → BlockOf (for_domain (ascii "2.example") room₁) i → BlockOf (for_domain (ascii ".example") room₂) j
    → input_of emsk (for_domain (ascii "2.example") room₁) i ≡ input_of emsk (for_domain (ascii ".example") room₂) j → ⊥

-- The inputs that demand 3 speaks of are those of the blocks of demand 2's key. The key is the first n bytes of the request's blocks, one after
-- the other; each block is HMAC of its input; the key has n bytes; and an accepted request has at most 255 blocks, so that a block number is a byte
abbrev pub KeyOfBlocks : Type 0
KeyOfBlocks =
    (emsk : List ℕ) (r : Request)
    → (key_of emsk r ≡ take (length_of r) (blocks hmac_sha256 emsk (text_of r) (block_count (length_of r))))
    × ((i : ℕ) → BlockOf r i → block hmac_sha256 emsk (text_of r) i ≡ hmac_sha256 emsk (input_of emsk r i))
    × (length (key_of emsk r) ≡ length_of r)
    × (Accepted emsk r → block_count (length_of r) ≤ 255)

-- A request for a VRK is the usage request with that label, no data and n = 64: the tests come to the same, so that one is accepted exactly
-- when the other is; text and key are the same, and so is the input of each block
abbrev pub VrkIsUsage : Type 0
VrkIsUsage =
    (emsk : List ℕ) (room : ℕ)
    → (check_of emsk (for_vrk room) ≡ check_of emsk (for_usage vrk_label [] 64 room))
    × (text_of (for_vrk room) ≡ text_of (for_usage vrk_label [] 64 room))
    × (key_of emsk (for_vrk room) ≡ key_of emsk (for_usage vrk_label [] 64 room))
    × ((i : ℕ) → input_of emsk (for_vrk room) i ≡ input_of emsk (for_usage vrk_label [] 64 room) i)

-- Some requests are accepted, and others are refused with the first number that holds: a label of one letter; no label; a label with a tab,
-- where the key length is wrong too; a label with a space, and the domain label, where it is wrong too; the domains of `DomainsApartExample`; a domain with an
-- underscore, where there is no room either
abbrev pub SomeAccepted : Type 0
SomeAccepted =
    Accepted (replicate 64 7) (for_usage (ascii "a") [] 64 64)
    × (check_of (replicate 64 7) (for_usage [] [] 64 64) ≡ refuse (bare 2))
    × (check_of (replicate 64 7) (for_usage (0x61 ∷ 0x09 ∷ []) [] 0 64) ≡ refuse (located 3 1))
    × (check_of (replicate 64 7) (for_usage (ascii "gate 12") [] 0 64) ≡ refuse (bare 32))
    × (check_of (replicate 64 7) (for_usage dsrk_label [] 0 64) ≡ refuse (bare 31))
    × Accepted (replicate 64 7) (for_domain (ascii "2.example") 64)
    × Accepted (replicate 64 7) (for_domain (ascii ".example") 64)
    × (check_of (replicate 64 7) (for_domain (ascii "2_example") 0) ≡ refuse (bare 8))

-- the worked example of docs/SEPARATION.md: without the zero byte the two texts would be one
abbrev pub UsageTextExample : Type 0
UsageTextExample =
    (room : ℕ)
    → (text_of (for_usage (ascii "gate1") (ascii "2") 64 room) ≡ 0x67 ∷ 0x61 ∷ 0x74 ∷ 0x65 ∷ 0x31 ∷ 0x00 ∷ 0x32 ∷ 0x00 ∷ 0x40 ∷ [])
    × (text_of (for_usage (ascii "gate") (ascii "12") 64 room) ≡ 0x67 ∷ 0x61 ∷ 0x74 ∷ 0x65 ∷ 0x00 ∷ 0x31 ∷ 0x32 ∷ 0x00 ∷ 0x40 ∷ [])
