-- A law of the offers that a walk keeps: what one more makes of them.
use Rattle.std.proofs.Common.{◌≡◌, ℕ, ◌≤◌, ◌<◌, Option, Result, Ok, Err, List, [], ◌∷◌, ◌++◌, length}
use Rattle.std.specs.Prelude.{⊤, MatchResult}
use borrow.Author.Tests.{lt-ltb, le-ltb}
use Rattle.area_format.specs.Area.{Standing, standing, read_on}
use Rattle.area_format.specs.declared.Attribute.TheVariants.{Offer}
use Rattle.area_format.specs.declared.Fault.{Fault}
use Rattle.area_format.specs.declared.Fault.TheVariants.{OfferCount}
use Rattle.area_format.specs.declared.Name.{Name}
use Rattle.area.specs.Internal.{read_after}

pub offer_met : (before after : List ℕ) (name : Option Name) (at value : ℕ) (pushed : Result ⊤ Fault) (later : List Standing)
    → MatchResult pushed (λ _. (length before < 17) × (after ≡ before ++ value ∷ [])) (λ why. (17 ≤ length before) × (why ≡ OfferCount) × (after ≡ before))
    → read_on before name (standing at (Offer value) ∷ later) ≡ read_after pushed at (record { offers = after; name = name }) later
unfolding read_on
offer_met before after name at value (Ok _) later e = rw (lt-ltb _ _ e.0, e.1)
offer_met before after name at value (Err why) later e = rw (le-ltb _ _ e.0, e.1)
