-- What is proved of VMSK requests (document 01, "Visited keys"), and what is not promised of them. The proofs are in proofs/Separation.antt.
use Rattle.std.specs.Prelude.{ℕ, ◌≡◌, ◌↔◌, List}
use Rattle.refusal.specs.Checks.{pass}
use Rattle.slices.specs.Ascii.{ascii}
use Rattle.visited.specs.Visited.{vmsk_text, vmsk_check, vmsk_key}

-- two accepted VMSK requests under one VRK with equal domains have equal S exactly when their server IDs are equal
abbrev pub VmskSeparated : Type 0
VmskSeparated =
    (vrk server₁ server₂ domain₁ domain₂ : List ℕ) (room₁ room₂ : ℕ)
    → vmsk_check vrk server₁ domain₁ room₁ ≡ pass → vmsk_check vrk server₂ domain₂ room₂ ≡ pass
    → domain₁ ≡ domain₂
    → (vmsk_text server₁ domain₁ ≡ vmsk_text server₂ domain₂) ↔ (server₁ ≡ server₂)

-- Not promised: that requests with different domains have different S. S has no length and no separator, so it does not show where
-- the server ID ends and the domain begins: server "yard1" with domain "2.example" and server "yard12" with domain ".example" have one S, and so one
-- key under any VRK
abbrev pub VmskNotInjective : Type 0
VmskNotInjective =
    (vrk : List ℕ)
    → (vmsk_text (ascii "yard1") (ascii "2.example") ≡ vmsk_text (ascii "yard12") (ascii ".example"))
    × (vmsk_key vrk (ascii "yard1") (ascii "2.example") ≡ vmsk_key vrk (ascii "yard12") (ascii ".example"))
