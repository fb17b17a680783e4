-- What is proved of the handover keys (document 02, request 2). The proofs are `r0_apart`, `r1_apart` and `never_shared` of proofs/Apart.antt, and
-- `input_bytes`, `key_of_blocks` and `some_accepted` of proofs/Keys.antt.
use Rattle.std.specs.Prelude.{ℕ, ◌≤◌, ◌≡◌, ◌↔◌, List, [], ◌∷◌, ◌++◌, length, take, replicate}
use Rattle.refusal.specs.Checks.{pass, refuse, bare}
use Rattle.hmac_sha1.specs.Rfc2104.{hmac_sha1}
use Rattle.handover_rules.specs.Kdf.{iterations}
use Rattle.handover_rules.specs.Handover.{r0_input, r1_input, r0_key, r1_key, r0_check, r1_check, r0_name_check}

-- an iteration of the derivation of a key of 256 bits
abbrev pub Iteration : ℕ → Type 0
Iteration i = (1 ≤ i) × (i ≤ iterations 256)

-- Two R0 requests accepted under one rRK hand the same bytes to HMAC exactly when their AD-IDs, their SPAs and the iteration agree. Nothing is
-- assumed of HMAC or SHA-1. Acceptance is a premise, since the lengths of the identifiers (34) fix where one ends and the next begins
abbrev pub R0Apart : Type 0
R0Apart =
    (rrk ad₁ ad₂ spa₁ spa₂ : List ℕ) (room₁ room₂ i j : ℕ)
    → r0_check rrk ad₁ spa₁ room₁ ≡ pass → r0_check rrk ad₂ spa₂ room₂ ≡ pass
    → Iteration i → Iteration j
    → (r0_input ad₁ spa₁ i ≡ r0_input ad₂ spa₂ j) ↔ ((ad₁ ≡ ad₂) × (spa₁ ≡ spa₂) × (i ≡ j))

-- The same of two R1 requests accepted under one R0-Key: exactly when AD-IDs, AN-IDs, SPAs and the iteration agree
abbrev pub R1Apart : Type 0
R1Apart =
    (r0 ad₁ ad₂ an₁ an₂ spa₁ spa₂ : List ℕ) (room₁ room₂ i j : ℕ)
    → r1_check r0 ad₁ an₁ spa₁ room₁ ≡ pass → r1_check r0 ad₂ an₂ spa₂ room₂ ≡ pass
    → Iteration i → Iteration j
    → (r1_input ad₁ an₁ spa₁ i ≡ r1_input ad₂ an₂ spa₂ j) ↔ ((ad₁ ≡ ad₂) × (an₁ ≡ an₂) × (spa₁ ≡ spa₂) × (i ≡ j))

-- No R0 request and no R1 request hand HMAC the same bytes, whatever their identifiers are: their labels differ
abbrev pub NeverShared : Type 0
NeverShared = (ad₁ spa₁ ad₂ an₂ spa₂ : List ℕ) (i j : ℕ) → r0_input ad₁ spa₁ i ≡ r1_input ad₂ an₂ spa₂ j → ⊥

-- The inputs byte by byte: the number of the iteration, the letters of the draft's lists, a zero byte, the identifiers, and 256
abbrev pub InputBytes : Type 0
InputBytes =
    (ad an spa : List ℕ)
    → (r0_input ad spa 1
    ≡ 0x01 ∷ 0x00 ∷ 0x52 ∷ 0x30 ∷ 0x20 ∷ 0x4b ∷ 0x65 ∷ 0x79 ∷ 0x20 ∷ 0x64 ∷ 0x65 ∷ 0x72 ∷ 0x69 ∷ 0x76 ∷ 0x61 ∷ 0x74 ∷ 0x69 ∷ 0x6f ∷ 0x6e ∷ 0x00
    ∷ ((ad ++ spa) ++ (0x00 ∷ 0x01 ∷ [])))
    × (r1_input ad an spa 2
    ≡ 0x02 ∷ 0x00 ∷ 0x52 ∷ 0x31 ∷ 0x20 ∷ 0x4b ∷ 0x65 ∷ 0x79 ∷ 0x20 ∷ 0x64 ∷ 0x65 ∷ 0x72 ∷ 0x69 ∷ 0x76 ∷ 0x61 ∷ 0x74 ∷ 0x69 ∷ 0x6f ∷ 0x6e ∷ 0x00
    ∷ ((ad ++ (an ++ spa)) ++ (0x00 ∷ 0x01 ∷ [])))

-- The inputs that these speak of are those of the keys. A key is the first 32 bytes of the MACs of its two inputs, one after the other: under the
-- first 32 bytes of the rRK for an R0-Key, under the R0-Key for an R1-Key. There are two iterations, and a key has 32 bytes
abbrev pub KeyOfBlocks : Type 0
KeyOfBlocks =
    (iterations 256 ≡ 2)
    × ((rrk ad spa : List ℕ) → r0_key rrk ad spa ≡ take 32 (hmac_sha1 (take 32 rrk) (r0_input ad spa 1) ++ hmac_sha1 (take 32 rrk) (r0_input ad spa 2)))
    × ((r0 ad an spa : List ℕ) → r1_key r0 ad an spa ≡ take 32 (hmac_sha1 r0 (r1_input ad an spa 1) ++ hmac_sha1 r0 (r1_input ad an spa 2)))
    × ((rrk ad spa : List ℕ) → length (r0_key rrk ad spa) ≡ 32)
    × ((r0 ad an spa : List ℕ) → length (r1_key r0 ad an spa) ≡ 32)

-- Some requests are accepted, and others are refused with the first number that holds
abbrev pub SomeAccepted : Type 0
SomeAccepted =
    (r0_check (replicate 64 7) (replicate 16 1) (replicate 6 2) 32 ≡ pass)
    × (r1_check (replicate 32 7) (replicate 16 1) (replicate 16 3) (replicate 6 2) 32 ≡ pass)
    × (r0_name_check (replicate 32 7) (replicate 16 1) (replicate 6 2) 16 ≡ pass)
    × (r0_check (replicate 32 7) (replicate 6 1) (replicate 6 2) 31 ≡ refuse (bare 33))
    × (r0_check (replicate 64 7) (replicate 16 1) (replicate 16 2) 31 ≡ refuse (bare 34))
    × (r0_check (replicate 64 7) (replicate 16 1) (replicate 6 2) 31 ≡ refuse (bare 6))
    × (r0_name_check (replicate 64 7) (replicate 6 1) (replicate 6 2) 15 ≡ refuse (bare 33))
