-- What is proved of the keys of EAP-AKA' (document 02, request 11). The proofs are in proofs/Shown.antt.
use Rattle.std.specs.Prelude.{ℕ, ◌≡◌, List, ◌++◌, length}
use Rattle.refusal.specs.Checks.{pass, check1}
use Rattle.refusal.specs.Answers.{buffer_after}
use Rattle.aka_keys.specs.Rfc5448.{key_material, k_encr_of, k_aut_of, k_re_of, msk_of, emsk_of, aka_check}

-- the 208 bytes are K_encr 16, K_aut 32, K_re 32, MSK 64, EMSK 64, in that order
abbrev pub Parts : Type 0
Parts =
    (ck ik name sqnXorAk identity : List ℕ)
    → let mk = key_material ck ik name sqnXorAk identity in
    (mk ≡ k_encr_of mk ++ (k_aut_of mk ++ (k_re_of mk ++ (msk_of mk ++ emsk_of mk))))
    × (length (k_encr_of mk) ≡ 16) × (length (k_aut_of mk) ≡ 32) × (length (k_re_of mk) ≡ 32) × (length (msk_of mk) ≡ 64) × (length (emsk_of mk) ≡ 64)

-- the EMSK of an accepted call, where it stands in the buffer, is that of the key material and passes 1: every call under an EMSK takes it
abbrev pub EmskIsRoot : Type 0
EmskIsRoot =
    (ck ik name sqnXorAk identity buffer : List ℕ)
    → let check = aka_check ck ik name sqnXorAk identity (length buffer) in
    let mk = key_material ck ik name sqnXorAk identity in
    check ≡ pass → (emsk_of (buffer_after check 208 mk buffer) ≡ emsk_of mk) × (check1 (emsk_of mk) ≡ pass)
