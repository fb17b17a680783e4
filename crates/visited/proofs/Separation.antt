-- Of VMSK requests with one domain, the texts are equal exactly when the server IDs are: the domain is cancelled from the back.
use mathlib.Core.Path.{refl}
use mathlib.Core.List.{append_cancel_right}
use Rattle.visited.specs.Visited.{vmsk_text, vmsk_key}
use Rattle.visited.specs.Statements.{VmskSeparated, VmskNotInjective}

pub vmsk_separated : VmskSeparated
unfolding vmsk_text
vmsk_separated vrk s₁ s₂ d₁ d₂ room₁ room₂ a₁ a₂ same = (λ e. append_cancel_right s₁ s₂ d₂ (cc), λ e. cc)

pub vmsk_not_injective : VmskNotInjective
unfolding vmsk_key vmsk_text
vmsk_not_injective vrk = (refl, refl)
