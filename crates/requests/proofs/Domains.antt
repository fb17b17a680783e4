-- Requests for a domain beside usage requests: 31 keeps the kinds apart, and demand 3 the domains.
use Prim.Native.Nat.{ℕ}
use mathlib.Core.Path.{◌≡◌, refl, sym, ap, ◌∙◌}
use mathlib.Core.Bool.{true}
use mathlib.Core.List.{List}
use native.Mathlib.Omega.{arith}
use lib.ListN.{length}
use Rattle.slices.proofs.Truth.{same_truth}
use Rattle.labels.specs.FixedLabels.{vrk_label, dsrk_label}
use Rattle.labels.proofs.DomainLabel.{domain_label_alone}
use Rattle.requests.specs.Requests.{Request, for_usage, for_vrk, for_domain, label_of, Accepted}
use Rattle.requests.specs.Statements.{is_for_domain, KindsApart, DomainsApart, DomainsApartExample}
use Rattle.requests.proofs.Accepting.{in_bounds}
use Rattle.requests.proofs.Separation.{separated}

-- an accepted request has the domain label exactly when it is for a domain: 31 refuses the others, and the VRK's label is longer
has_domain_label : (r : Request) → is_for_domain r ≡ true → label_of r ≡ dsrk_label
has_domain_label (for_usage label extra n room) k = cc
has_domain_label (for_vrk room) k = cc
has_domain_label (for_domain domain room) k = refl

is_for_domain_lem : (emsk : List ℕ) (r : Request) → Accepted emsk r → label_of r ≡ dsrk_label → is_for_domain r ≡ true
unfolding vrk_label dsrk_label
is_for_domain_lem emsk (for_usage label extra n room) a e = absurd ((domain_label_alone label).0 (in_bounds emsk label extra n room a).not_domain e)
is_for_domain_lem emsk (for_vrk room) a e = let lengths : ◌≡◌ {A = ℕ} 27 13 = ap length e in absurd (omega (arith, lengths))
is_for_domain_lem emsk (for_domain domain room) a e = refl

-- so accepted requests with one label are of one kind
one-kind : (emsk : List ℕ) (r₁ r₂ : Request) → Accepted emsk r₁ → Accepted emsk r₂ → label_of r₁ ≡ label_of r₂ → is_for_domain r₁ ≡ is_for_domain r₂
one-kind emsk r₁ r₂ a₁ a₂ e =
    same_truth _ _ (λ k. is_for_domain_lem emsk r₂ a₂ (sym e ∙ has_domain_label r₁ k)) (λ k. is_for_domain_lem emsk r₁ a₁ (e ∙ has_domain_label r₂ k))

pub kinds_apart : KindsApart
kinds_apart emsk r₁ r₂ a₁ a₂ i j b₁ b₂ e = one-kind emsk r₁ r₂ a₁ a₂ ((separated emsk r₁ r₂ a₁ a₂ i j b₁ b₂).0 e).0

pub domains_apart : DomainsApart
domains_apart emsk d₁ d₂ room₁ room₂ a₁ a₂ i j b₁ b₂ =
    let s = separated emsk (for_domain d₁ room₁) (for_domain d₂ room₂) a₁ a₂ i j b₁ b₂ in
    (λ e. let h = s.0 e in (h.1, h.3), λ h. s.1 (refl, h.0, refl, h.1))

pub domains_apart_example : DomainsApartExample
domains_apart_example emsk room₁ room₂ a₁ a₂ i j b₁ b₂ e =
    let lengths : ◌≡◌ {A = ℕ} 9 8 = ap length ((domains_apart emsk _ _ room₁ room₂ a₁ a₂ i j b₁ b₂).0 e).0 in omega (arith, lengths)
